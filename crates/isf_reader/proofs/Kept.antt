-- Every table that is read keeps its order.
use Rattle.std.proofs.Common.{◌≡◌, ◌<◌, ◌≤◌, ◌^◌, nat_lt, rules, Equal, is_eq, ℕ, ℤ, List, [], ◌∷◌, map, Option, Some, None, option_map, option_and_then, unwrap_or, cond, Bool, true, false, Result, Ok, Err, nat_cmp, codes, refl, sym, ap, subst, IfSome, ◌∙◌}
use Rattle.std.specs.BTreeMap.{insert_entry}
use Rattle.std.specs.BTreeSet.{insert_key}
use Rattle.std.specs.Cmp.{IsTotalOrder, on_total, then_total, nat_cmp_total, int_cmp_total}
use Rattle.std.specs.Cmp.Lexicographic.{slice_cmp, nat_list_cmp_total, bytes_decides, texts_ties}
use Rattle.std.specs.List.{AllByRecursion}
use Rattle.std.specs.List.Sorted.{IsStrictlySortedBy}
use Rattle.std.specs.Map.{keys_of}
use Rattle.serde_json.specs.Data.{Data, null, boolean, number, string, array, object, Members, no_members, member}
use Rattle.serde_json.specs.Find.{as_object, get, get_member}
use Rattle.isf_reader.proofs.Order.{in_order_inserted, all_inserted, keys_in_order_inserted}
use Rattle.isf_reader.specs.BaseTypes.{base_kind_of, big_of, base_of, size_fits, if_fits}
use Rattle.isf_reader.specs.Depth.{entry_named, first_too_deep}
use Rattle.isf_reader.specs.Entry.{with_key, entry_of}
use Rattle.isf_reader.specs.Enums.{by_value, values_onto, constant_at, constants_in, constants_of, enum_of}
use Rattle.isf_reader.specs.Json.{given, if_count, natural_of, count_of, count_at, text_at, flag_at, integer_of}
use Rattle.isf_reader.specs.Sections.{and_behind, entries_onto, section_in, section_of}
use Rattle.isf_reader.specs.Symbols.{symbol_of}
use Rattle.isf_reader.specs.Table.{IsfTable, in_section, and_then_read, sections_of, file_of, HasFieldsInOrder, HasConstantsInOrder, HasNamesInOrder, IsNear, HasNearFields, HasBaseSize, HasPointerSize, HasEnumSize, HasUserSize, IsTable, field_place}
use Rattle.isf_reader.specs.TypeOf.{type_at}
use Rattle.isf_reader.specs.UserTypes.{PlacedField, by_offset, flag_or_false, placed_of, fields_onto, field_at, fields_in, fields_of, user_kind_of, user_of}
use Rattle.isf_reader.specs.declared.base_type.BaseType.{BaseType}
use Rattle.isf_reader.specs.declared.enum_type.Constant.{Constant}
use Rattle.isf_reader.specs.declared.enum_type.EnumType.{EnumType}
use Rattle.isf_reader.specs.declared.refusal.IsfRefusal.{IsfRefusal}
use Rattle.isf_reader.specs.declared.refusal.Key.{Key}
use Rattle.isf_reader.specs.declared.refusal.Key.TheVariants as keys
use Rattle.isf_reader.specs.declared.refusal.Section.{Section}
use Rattle.isf_reader.specs.declared.user_type.Field.{Field}
use Rattle.isf_reader.specs.declared.user_type.UserType.{UserType}

by_offset_total : IsTotalOrder by_offset
by_offset_total = then_total (on_total (λ p. p.0) nat_cmp_total) (on_total (λ p. p.1) nat_list_cmp_total)

by_value_total : IsTotalOrder by_value
by_value_total = then_total (on_total (λ p. p.0) int_cmp_total) (on_total (λ p. p.1) nat_list_cmp_total)

-- what was found, before what was made of it
found_before : {A B : Type 0} (o : Option A) (f : A → Option B) (b : B) → option_and_then f o ≡ Some b → (a : A) × (o ≡ Some a) × (f a ≡ Some b)
found_before None f b h = cc
found_before (Some a) f b h = (a, refl, h)

mapped_before : {A B : Type 0} (o : Option A) (f : A → B) (b : B) → option_map f o ≡ Some b → (a : A) × (o ≡ Some a) × (f a ≡ b)
mapped_before None f b h = cc
mapped_before (Some a) f b h = (a, refl, ap (λ o. unwrap_or o b) h)

key_before : {A B : Type 0} (o : Option A) (key : Key) (f : A → Result B Key) (b : B) → with_key o key f ≡ Ok b → (a : A) × (o ≡ Some a) × (f a ≡ Ok b)
key_before None key f b h = cc
key_before (Some a) key f b h = (a, refl, h)

behind_before : {A B : Type 0} (r : Result A IsfRefusal) (f : A → Result B IsfRefusal) (b : B) → and_then_read r f ≡ Ok b → (a : A) × (r ≡ Ok a) × (f a ≡ Ok b)
behind_before (Ok a) f b h = (a, refl, h)
behind_before (Err e) f b h = cc

ok_or_other : {A E : Type 0} → A → Result A E → A
ok_or_other other (Ok a) = a
ok_or_other other (Err e) = other

same_ok : {A E : Type 0} (a b : A) → ◌≡◌ {A = Result A E} (Ok a) (Ok b) → a ≡ b
unfolding ok_or_other
same_ok a b h = ap (ok_or_other b) h

same_some : {A : Type 0} (a b : A) → Some a ≡ Some b → a ≡ b
same_some a b h = ap (λ o. unwrap_or o b) h

-- fields
abbrev AreByOffset : List Field → Type 0
AreByOffset fields = IsStrictlySortedBy by_offset (map field_place fields)

placed_in_order : (ms : Members) (found : List PlacedField) (all : List PlacedField) → fields_onto found ms ≡ Some all → IsStrictlySortedBy by_offset (keys_of found) → IsStrictlySortedBy by_offset (keys_of all)
placed_in_order no_members found all h sorted = subst (λ es. IsStrictlySortedBy by_offset (keys_of es)) (same_some found all h) sorted
placed_in_order (member name d ms) found all h sorted =
    let p = found_before (placed_of name d) (λ p. fields_onto (insert_entry by_offset found p.0 p.1) ms) all h in
    placed_in_order ms _ all p.2 (in_order_inserted by_offset by_offset_total found (p.0).0 (p.0).1 sorted)

places_are : (all : List PlacedField) → map field_place (map field_at all) ≡ keys_of all
places_are [] = refl
places_are (p ∷ all) = ap (λ places. p.0 ∷ places) (places_are all)

none_in_order : AreByOffset []
unfolding IsStrictlySortedBy
none_in_order = tt

fields_in_order : (ms : Members) (fields : List Field) → fields_in ms ≡ Some fields → AreByOffset fields
fields_in_order ms fields h =
    let p = mapped_before (fields_onto [] ms) (map field_at) fields h in
    subst AreByOffset p.2 (rw (places_are p.0) (placed_in_order ms [] p.0 p.1 none_in_order))

all_fields_in_order : (o : Option Data) (fields : List Field) → fields_of o ≡ Some fields → AreByOffset fields
all_fields_in_order None fields h = subst AreByOffset (same_some [] fields h) none_in_order
all_fields_in_order (Some d) fields h = let p = found_before (as_object d) fields_in fields h in fields_in_order p.0 fields p.2

user_in_order : (d : Data) (user : UserType) → user_of d ≡ Ok user → AreByOffset user.fields
user_in_order d user h =
    let size = key_before (count_at (codes "size") d) keys.Size _ user h in
    let kind = key_before (option_and_then user_kind_of (text_at (codes "kind") d)) keys.Kind _ user size.2 in
    let fields = key_before (fields_of (given (codes "fields") d)) keys.Fields _ user kind.2 in
    subst (λ u. AreByOffset u.fields) (same_ok _ user fields.2) (all_fields_in_order (given (codes "fields") d) fields.0 fields.1)

-- offsets are counts
abbrev AreNear : List Field → Type 0
AreNear = AllByRecursion IsNear

abbrev IsNearPlaced : PlacedField → Type 0
IsNearPlaced p = (p.0).0 < 2 ^ 32

counted : (n m : ℕ) → if_count n ≡ Some m → m < 2 ^ 32
counted n m h = go (nat_lt n (2 ^ 32)) refl h
  where
    go : (b : Bool) → nat_lt n (2 ^ 32) ≡ b → cond b (Some n) None ≡ Some m → m < 2 ^ 32
    go true below e = subst (λ k. k < 2 ^ 32) (same_some n m e) (search rules)
    go false above e = cc

counted_at : (key : List ℕ) (d : Data) (m : ℕ) → count_at key d ≡ Some m → m < 2 ^ 32
counted_at key d m h =
    let value = found_before (get key d) count_of m h in
    let number = found_before (natural_of value.0) if_count m value.2 in
    counted number.0 m number.2

near_placed : (name : List ℕ) (d : Data) (p : PlacedField) → placed_of name d ≡ Some p → IsNearPlaced p
near_placed name d p h =
    let offset = found_before (count_at (codes "offset") d) _ p h in
    let of = found_before (type_at (codes "type") d) _ p offset.2 in
    let anonymous = mapped_before (flag_or_false (given (codes "anonymous") d)) _ p of.2 in
    subst IsNearPlaced anonymous.2 (counted_at (codes "offset") d offset.0 offset.1)

near_onto : (ms : Members) (found : List PlacedField) (all : List PlacedField) → fields_onto found ms ≡ Some all → AllByRecursion IsNearPlaced found → AllByRecursion IsNearPlaced all
near_onto no_members found all h near = subst (AllByRecursion IsNearPlaced) (same_some found all h) near
near_onto (member name d ms) found all h near =
    let p = found_before (placed_of name d) (λ p. fields_onto (insert_entry by_offset found p.0 p.1) ms) all h in
    near_onto ms _ all p.2 (all_inserted by_offset IsNearPlaced (λ k l v w tied new old. old) found (p.0).0 (p.0).1 near (near_placed name d p.0 p.1))

near_fields : (all : List PlacedField) → AllByRecursion IsNearPlaced all → AreNear (map field_at all)
near_fields [] h = tt
near_fields (p ∷ all) h = (h.0, near_fields all h.1)

all_near_in : (ms : Members) (fields : List Field) → fields_in ms ≡ Some fields → AreNear fields
all_near_in ms fields h =
    let p = mapped_before (fields_onto [] ms) (map field_at) fields h in
    subst AreNear p.2 (near_fields p.0 (near_onto ms [] p.0 p.1 tt))

all_near : (o : Option Data) (fields : List Field) → fields_of o ≡ Some fields → AreNear fields
all_near None fields h = subst AreNear (same_some [] fields h) tt
all_near (Some d) fields h = let p = found_before (as_object d) fields_in fields h in all_near_in p.0 fields p.2

user_near : (d : Data) (user : UserType) → user_of d ≡ Ok user → AreNear user.fields
user_near d user h =
    let size = key_before (count_at (codes "size") d) keys.Size _ user h in
    let kind = key_before (option_and_then user_kind_of (text_at (codes "kind") d)) keys.Kind _ user size.2 in
    let fields = key_before (fields_of (given (codes "fields") d)) keys.Fields _ user kind.2 in
    subst (λ u. AreNear u.fields) (same_ok _ user fields.2) (all_near (given (codes "fields") d) fields.0 fields.1)

-- constants
abbrev AreByValue : List Constant → Type 0
AreByValue constants = IsStrictlySortedBy by_value (map (λ constant. (constant.value, constant.name)) constants)

values_in_order : (ms : Members) (found : List (ℤ × List ℕ)) (all : List (ℤ × List ℕ)) → values_onto found ms ≡ Some all → IsStrictlySortedBy by_value found → IsStrictlySortedBy by_value all
values_in_order no_members found all h sorted = subst (IsStrictlySortedBy by_value) (same_some found all h) sorted
values_in_order (member name d ms) found all h sorted =
    let p = found_before (integer_of d) (λ value. values_onto (insert_key by_value found (value, name)) ms) all h in
    values_in_order ms _ all p.2 (keys_in_order_inserted by_value by_value_total found (p.0, name) sorted)

values_are : (all : List (ℤ × List ℕ)) → map (λ constant. (constant.value, constant.name)) (map constant_at all) ≡ all
values_are [] = refl
values_are (p ∷ all) = ap (λ places. p ∷ places) (values_are all)

no_values_in_order : AreByValue []
unfolding IsStrictlySortedBy
no_values_in_order = tt

constants_in_order : (ms : Members) (constants : List Constant) → constants_in ms ≡ Some constants → AreByValue constants
constants_in_order ms constants h =
    let p = mapped_before (values_onto [] ms) (map constant_at) constants h in
    subst AreByValue p.2 (rw (values_are p.0) (values_in_order ms [] p.0 p.1 no_values_in_order))

all_constants_in_order : (o : Option Data) (constants : List Constant) → constants_of o ≡ Some constants → AreByValue constants
all_constants_in_order None constants h = subst AreByValue (same_some [] constants h) no_values_in_order
all_constants_in_order (Some d) constants h = let p = found_before (as_object d) constants_in constants h in constants_in_order p.0 constants p.2

enum_in_order : (d : Data) (enum : EnumType) → enum_of d ≡ Ok enum → AreByValue enum.constants
enum_in_order d enum h =
    let size = key_before (count_at (codes "size") d) keys.Size _ enum h in
    let base = key_before (text_at (codes "base") d) keys.Base _ enum size.2 in
    let constants = key_before (constants_of (given (codes "constants") d)) keys.Constants _ enum base.2 in
    subst (λ e. AreByValue e.constants) (same_ok _ enum constants.2) (all_constants_in_order (given (codes "constants") d) constants.0 constants.1)

-- sizes are counts
same_name : (a b : List ℕ) → is_eq (slice_cmp nat_cmp a b) ≡ true → a ≡ b
same_name a b tied = (bytes_decides a b).0 (texts_ties a b ∙ tied)

enum_counted : (d : Data) (enum : EnumType) → enum_of d ≡ Ok enum → enum.size < 2 ^ 32
enum_counted d enum h =
    let size = key_before (count_at (codes "size") d) keys.Size _ enum h in
    let base = key_before (text_at (codes "base") d) keys.Base _ enum size.2 in
    let constants = key_before (constants_of (given (codes "constants") d)) keys.Constants _ enum base.2 in
    subst (λ e. e.size < 2 ^ 32) (same_ok _ enum constants.2) (counted_at (codes "size") d size.0 size.1)

user_counted : (d : Data) (user : UserType) → user_of d ≡ Ok user → user.size < 2 ^ 32
user_counted d user h =
    let size = key_before (count_at (codes "size") d) keys.Size _ user h in
    let kind = key_before (option_and_then user_kind_of (text_at (codes "kind") d)) keys.Kind _ user size.2 in
    let fields = key_before (fields_of (given (codes "fields") d)) keys.Fields _ user kind.2 in
    subst (λ u. u.size < 2 ^ 32) (same_ok _ user fields.2) (counted_at (codes "size") d size.0 size.1)

-- a base type's size is a count, and fits its name
abbrev IsSized : List ℕ × BaseType → Type 0
IsSized entry = ((entry.1).size < 2 ^ 32) × (size_fits entry.0 (entry.1).size ≡ true)

fitted : (name : List ℕ) (n m : ℕ) → if_fits name n ≡ Some m → n < 2 ^ 32 → (m < 2 ^ 32) × (size_fits name m ≡ true)
fitted name n m h count = go (size_fits name n) refl h
  where
    go : (b : Bool) → size_fits name n ≡ b → cond b (Some n) None ≡ Some m → (m < 2 ^ 32) × (size_fits name m ≡ true)
    go true fits e = subst (λ k. (k < 2 ^ 32) × (size_fits name k ≡ true)) (same_some n m e) (count, fits)
    go false fits e = cc

base_sized : (name : List ℕ) (d : Data) (base : BaseType) → base_of name d ≡ Ok base → IsSized (name, base)
base_sized name d base h =
    let size = key_before (option_and_then (if_fits name) (count_at (codes "size") d)) keys.Size _ base h in
    let count = found_before (count_at (codes "size") d) (if_fits name) size.0 size.1 in
    let signed = key_before (flag_at (codes "signed") d) keys.Signed _ base size.2 in
    let kind = key_before (option_and_then base_kind_of (text_at (codes "kind") d)) keys.Kind _ base signed.2 in
    let big = key_before (option_and_then big_of (text_at (codes "endian") d)) keys.Endian _ base kind.2 in
    subst (λ b. IsSized (name, b)) (same_ok _ base big.2) (fitted name count.0 size.0 count.2 (counted_at (codes "size") d count.0 count.1))

base_sizes_of : (bases : List (List ℕ × BaseType)) → AllByRecursion IsSized bases → AllByRecursion HasBaseSize bases
base_sizes_of [] h = tt
base_sizes_of (e ∷ bases) h = ((h.0).0, base_sizes_of bases h.1)

pointer_fits : (size : ℕ) → size_fits (codes "pointer") size ≡ true → (1 ≤ size) × (size ≤ 8)
unfolding size_fits
pointer_fits size h = search rules

pointer_of : (bases : List (List ℕ × BaseType)) → AllByRecursion IsSized bases → HasPointerSize bases
pointer_of [] h = tt
pointer_of (e ∷ bases) h = go (is_eq (slice_cmp nat_cmp (codes "pointer") e.0)) refl (pointer_of bases h.1)
  where
    go : (b : Bool) → is_eq (slice_cmp nat_cmp (codes "pointer") e.0) ≡ b → HasPointerSize bases → IfSome (cond b (Some e.1) (entry_named (codes "pointer") bases)) (λ base. (1 ≤ base.size) × (base.size ≤ 8))
    go true same more = pointer_fits (e.1).size (subst (λ name. size_fits name (e.1).size ≡ true) (sym (same_name (codes "pointer") e.0 same)) (h.0).1)
    go false other more = more

-- sections
module _ {E : Type 0} (reads : List ℕ → Data → Result E Key) where
  abbrev Entries : Type 0
  Entries = List (List ℕ × E)

  entry_before : (name : List ℕ) (r : Result E Key) (behind : E → Result Entries (List ℕ × Key)) (all : Entries) → and_behind reads name r behind ≡ Ok all → (e : E) × (r ≡ Ok e) × (behind e ≡ Ok all)
  entry_before name (Ok e) behind all h = (e, refl, h)
  entry_before name (Err key) behind all h = cc

  object_before : (b : Bool) (r : Result E Key) (e : E) → cond b r (Err keys.Whole) ≡ Ok e → r ≡ Ok e
  object_before true r e h = h
  object_before false r e h = cc

  names_onto : (ms : Members) (found : Entries) (all : Entries) → entries_onto reads found ms ≡ Ok all → HasNamesInOrder found → HasNamesInOrder all
  names_onto no_members found all h sorted = subst HasNamesInOrder (same_ok found all h) sorted
  names_onto (member name d ms) found all h sorted =
      let p = entry_before name (entry_of reads name d) (λ entry. entries_onto reads (insert_entry (slice_cmp nat_cmp) found name entry) ms) all h in
      names_onto ms _ all p.2 (in_order_inserted (slice_cmp nat_cmp) nat_list_cmp_total found name p.0 sorted)

  no_names_in_order : HasNamesInOrder {E = E} []
  unfolding IsStrictlySortedBy
  no_names_in_order = tt

  names_in : (d : Data) (all : Entries) → section_in reads d ≡ Ok all → HasNamesInOrder all
  names_in null all h = subst HasNamesInOrder (same_ok [] all h) no_names_in_order
  names_in (boolean b) all h = cc
  names_in (number n) all h = cc
  names_in (string s) all h = cc
  names_in (array ds) all h = cc
  names_in (object ms) all h = names_onto ms [] all h no_names_in_order

  names_of : (o : Option Data) (all : Entries) → section_of reads o ≡ Ok all → HasNamesInOrder all
  names_of None all h = subst HasNamesInOrder (same_ok [] all h) no_names_in_order
  names_of (Some d) all h = names_in d all h

  module _ (P : List ℕ × E → Type 0) (keep : (name : List ℕ) (d : Data) (e : E) → reads name d ≡ Ok e → P (name, e)) where
    -- an entry stands under its name
    takes : (k l : List ℕ) (v w : E) → slice_cmp nat_cmp k l ≡ Equal → P (k, v) → P (l, w) → P (l, v)
    takes k l v w tied new old = subst (λ name. P (name, v)) (same_name k l (ap is_eq tied)) new

    all_onto : (ms : Members) (found : Entries) (all : Entries) → entries_onto reads found ms ≡ Ok all → AllByRecursion P found → AllByRecursion P all
    all_onto no_members found all h kept = subst (AllByRecursion P) (same_ok found all h) kept
    all_onto (member name d ms) found all h kept =
        let p = entry_before name (entry_of reads name d) (λ entry. entries_onto reads (insert_entry (slice_cmp nat_cmp) found name entry) ms) all h in
        all_onto ms _ all p.2 (all_inserted (slice_cmp nat_cmp) P takes found name p.0 kept (keep name d p.0 (object_before _ (reads name d) p.0 p.1)))

    all_in : (d : Data) (all : Entries) → section_in reads d ≡ Ok all → AllByRecursion P all
    all_in null all h = subst (AllByRecursion P) (same_ok [] all h) tt
    all_in (boolean b) all h = cc
    all_in (number n) all h = cc
    all_in (string s) all h = cc
    all_in (array ds) all h = cc
    all_in (object ms) all h = all_onto ms [] all h tt

    all_of : (o : Option Data) (all : Entries) → section_of reads o ≡ Ok all → AllByRecursion P all
    all_of None all h = subst (AllByRecursion P) (same_ok [] all h) tt
    all_of (Some d) all h = all_in d all h

section_before : {E : Type 0} (section : Section) (r : Result (List (List ℕ × E)) (List ℕ × Key)) (all : List (List ℕ × E)) → in_section section r ≡ Ok all → r ≡ Ok all
section_before section (Ok es) all h = ap Ok (same_ok es all h)
section_before section (Err fault) all h = cc

sections_kept : (b e u y : Option Data) (s : IsfTable) → sections_of b e u y ≡ Ok s → first_too_deep s.users ≡ None → IsTable s
sections_kept b e u y s h shallow =
    let bases = behind_before (in_section _ (section_of base_of b)) _ s h in
    let enums = behind_before (in_section _ (section_of (λ name. enum_of) e)) _ s bases.2 in
    let users = behind_before (in_section _ (section_of (λ name. user_of) u)) _ s enums.2 in
    let symbols = behind_before (in_section _ (section_of (λ name. symbol_of) y)) _ s users.2 in
    let is = same_ok _ s symbols.2 in
    let read_bases = section_before _ (section_of base_of b) bases.0 bases.1 in
    let read_enums = section_before _ (section_of (λ name. enum_of) e) enums.0 enums.1 in
    let read_users = section_before _ (section_of (λ name. user_of) u) users.0 users.1 in
    let sized : AllByRecursion IsSized s.bases = subst (λ t. AllByRecursion IsSized t.bases) is (all_of base_of IsSized base_sized b bases.0 read_bases) in
    record {
      bases = subst (λ t. HasNamesInOrder t.bases) is (names_of base_of b bases.0 read_bases);
      enums = subst (λ t. HasNamesInOrder t.enums) is (names_of (λ name. enum_of) e enums.0 read_enums);
      users = subst (λ t. HasNamesInOrder t.users) is (names_of (λ name. user_of) u users.0 read_users);
      symbols = subst (λ t. HasNamesInOrder t.symbols) is (names_of (λ name. symbol_of) y symbols.0 (section_before _ (section_of (λ name. symbol_of) y) symbols.0 symbols.1));
      shallow = shallow;
      fields = subst (λ t. AllByRecursion HasFieldsInOrder t.users) is (all_of (λ name. user_of) HasFieldsInOrder (λ name. user_in_order) u users.0 read_users);
      offsets = subst (λ t. AllByRecursion HasNearFields t.users) is (all_of (λ name. user_of) HasNearFields (λ name. user_near) u users.0 read_users);
      base_sizes = base_sizes_of s.bases sized;
      pointer = pointer_of s.bases sized;
      enum_sizes = subst (λ t. AllByRecursion HasEnumSize t.enums) is (all_of (λ name. enum_of) HasEnumSize (λ name. enum_counted) e enums.0 read_enums);
      user_sizes = subst (λ t. AllByRecursion HasUserSize t.users) is (all_of (λ name. user_of) HasUserSize (λ name. user_counted) u users.0 read_users);
      constants = subst (λ t. AllByRecursion HasConstantsInOrder t.enums) is (all_of (λ name. enum_of) HasConstantsInOrder (λ name. enum_in_order) e enums.0 read_enums);
    }

-- what a file's sections are, where no user type is too deep, is a table
pub kept : (d : Data) (s : IsfTable) → file_of d ≡ Ok s → first_too_deep s.users ≡ None → IsTable s
kept null s h shallow = cc
kept (boolean b) s h shallow = cc
kept (number n) s h shallow = cc
kept (string t) s h shallow = cc
kept (array ds) s h shallow = cc
kept (object ms) s h shallow = sections_kept (get_member (codes "base_types") ms) (get_member (codes "enums") ms) (get_member (codes "user_types") ms) (get_member (codes "symbols") ms) s h shallow

users_in_order : (b e u y : Option Data) (s : IsfTable) → sections_of b e u y ≡ Ok s → HasNamesInOrder s.users
users_in_order b e u y s h =
    let bases = behind_before (in_section _ (section_of base_of b)) _ s h in
    let enums = behind_before (in_section _ (section_of (λ name. enum_of) e)) _ s bases.2 in
    let users = behind_before (in_section _ (section_of (λ name. user_of) u)) _ s enums.2 in
    let symbols = behind_before (in_section _ (section_of (λ name. symbol_of) y)) _ s users.2 in
    subst (λ t. HasNamesInOrder t.users) (same_ok _ s symbols.2) (names_of (λ name. user_of) u users.0 (section_before _ (section_of (λ name. user_of) u) users.0 users.1))

-- the user types of a file stand in order, however deep they are
pub users_kept : (d : Data) (s : IsfTable) → file_of d ≡ Ok s → HasNamesInOrder s.users
users_kept null s h = cc
users_kept (boolean b) s h = cc
users_kept (number n) s h = cc
users_kept (string t) s h = cc
users_kept (array ds) s h = cc
users_kept (object ms) s h = users_in_order (get_member (codes "base_types") ms) (get_member (codes "enums") ms) (get_member (codes "user_types") ms) (get_member (codes "symbols") ms) s h
