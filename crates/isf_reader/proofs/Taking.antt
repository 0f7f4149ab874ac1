-- What is left of an object when a member is taken out.
use Rattle.std.proofs.Common.{◌≡◌, ℕ, List, [], ◌∷◌, Bool, true, false, cond, Option, Some, String, Global, Ordering, Less, Equal, Greater, nat_cmp, is_eq, bytes_eq, string_bytes, refl, sym, ap, subst, true≢false, ◌∙◌}
use Rattle.std.specs.BTreeMap.{is_at}
use Rattle.std.specs.Cmp.Lexicographic.{slice_cmp, bytes_decides, texts_ties}
use Rattle.std.specs.Map.{remove_entry}
use Rattle.std.specs.Ordering.{match_ordering}
use Rattle.serde_json.specs.Data.{Data}
use Rattle.serde_json.specs.Find.{get_member}
use Rattle.serde_json.specs.View.{view, members_view}
use Rattle.serde_json.specs.declared.value.Value.{Value}

passed_over : (o : Ordering) (rest found : Option Data) → is_eq o ≡ false → match_ordering o rest found rest ≡ rest
passed_over Less rest found h = refl
passed_over Equal rest found h = absurd (true≢false h)
passed_over Greater rest found h = refl

abbrev Member : Type 0
Member = String Global × Value

abbrev without : List ℕ → List Member → List Member
without name es = remove_entry (is_at (λ key. slice_cmp nat_cmp name (string_bytes key))) es

stays_behind : (name other : List ℕ) → bytes_eq other name ≡ false → (e : Member) (es : List Member)
    → get_member other (members_view (without name es)) ≡ get_member other (members_view es)
    → (b : Bool) → is_eq (slice_cmp nat_cmp name (string_bytes e.0)) ≡ b
    → get_member other (members_view (cond b es (e ∷ without name es))) ≡ get_member other (members_view (e ∷ es))
stays_behind name other apart e es more true h =
    let same : name ≡ string_bytes e.0 = (bytes_decides name (string_bytes e.0)).0 (texts_ties name (string_bytes e.0) ∙ h) in
    let over : is_eq (slice_cmp nat_cmp other (string_bytes e.0)) ≡ false = sym (texts_ties other (string_bytes e.0)) ∙ subst (λ key. bytes_eq other key ≡ false) same apart in
    sym (passed_over (slice_cmp nat_cmp other (string_bytes e.0)) _ _ over)
stays_behind name other apart e es more false h = ap (λ found. match_ordering (slice_cmp nat_cmp other (string_bytes e.0)) found (Some (view e.1)) found) more

pub others_stay : (name other : List ℕ) → bytes_eq other name ≡ false → (es : List Member)
    → get_member other (members_view (without name es)) ≡ get_member other (members_view es)
others_stay name other apart [] = refl
others_stay name other apart (e ∷ es) = stays_behind name other apart e es (others_stay name other apart es) (is_eq (slice_cmp nat_cmp name (string_bytes e.0))) refl
