-- A descriptor, by what its keys hold.
use Rattle.std.proofs.Common.{◌≡◌, ℕ, max, ◌<◌, ◌≤◌, List, Option, Some, None, option_and_then, Ordering, Less, Equal, Greater, nat_cmp, codes, refl, subst, arith}
use Rattle.std.specs.Cmp.Lexicographic.{slice_cmp}
use Rattle.std.specs.Ordering.{match_ordering}
use Rattle.serde_json.specs.Data.{Data, null, boolean, number, string, array, object, Members, no_members, member, depth, members_depth}
use Rattle.serde_json.specs.Find.{get, get_member}
use Rattle.isf_reader.specs.TypeOf.{type_of, type_in, type_at, described}
use Rattle.isf_reader.specs.declared.type_ref.TypeRef.{TypeRef}

and_then_by_order : (o : Ordering) (rest : Option Data) (d : Data) (more : Option TypeRef) → more ≡ option_and_then type_of rest
    → match_ordering o more (type_of d) more ≡ option_and_then type_of (match_ordering o rest (Some d) rest)
and_then_by_order Less rest d more e = e
and_then_by_order Equal rest d more e = refl
and_then_by_order Greater rest d more e = e

type_in_is : (key : List ℕ) (ms : Members) → type_in key ms ≡ option_and_then type_of (get_member key ms)
unfolding type_of
type_in_is key no_members = refl
type_in_is key (member name d ms) = and_then_by_order (slice_cmp nat_cmp key name) (get_member key ms) d (type_in key ms) (type_in_is key ms)

pub type_of_is : (d : Data) → type_of d ≡ described d (type_at (codes "subtype") d) (type_at (codes "type") d)
unfolding type_of
type_of_is null = refl
type_of_is (boolean b) = refl
type_of_is (number n) = refl
type_of_is (string s) = refl
type_of_is (array ds) = refl
type_of_is (object ms) = rw (type_in_is (codes "subtype") ms, type_in_is (codes "type") ms) refl

-- a member is less deep than its object
abbrev IsWithin : ℕ → Option Data → Type 0
IsWithin n None = Unit {0}
IsWithin n (Some d) = depth d ≤ n

within_more : (n m : ℕ) (o : Option Data) → n ≤ m → IsWithin n o → IsWithin m o
within_more n m None h w = tt
within_more n m (Some d) h w = omega arith

member_within : (key : List ℕ) (ms : Members) → IsWithin (members_depth ms) (get_member key ms)
member_within key no_members = tt
member_within key (member name d ms) =
    let rest = within_more _ (max (depth d) (members_depth ms)) _ (omega arith) (member_within key ms) in
    elim (slice_cmp nat_cmp key name) as (λ o. IsWithin (max (depth d) (members_depth ms)) (match_ordering o (get_member key ms) (Some d) (get_member key ms)))
    [ Less ↦ rest | Equal ↦ omega arith | Greater ↦ rest ]

pub depth_within : (key : List ℕ) (d e : Data) → get key d ≡ Some e → depth e < depth d
depth_within key null e h = cc
depth_within key (boolean b) e h = cc
depth_within key (number n) e h = cc
depth_within key (string s) e h = cc
depth_within key (array ds) e h = cc
depth_within key (object ms) e h = let w = subst (IsWithin (members_depth ms)) h (member_within key ms) in omega arith
