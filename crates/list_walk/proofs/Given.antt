-- The laws of the links that a walk gave.
use Rattle.std.proofs.Common.{◌≡◌, ℕ, ◌+◌, ◌^◌, ◌<◌, ◌≤◌, ◌==◌, Bool, true, false, List, length, Result, Ok, Err, refl, sym, ap, ◌∙◌, arith}
use Rattle.std.specs.Prelude.{not, if◌then◌else◌, OnOk, OnErr}
use Rattle.std.specs.BTreeMap.{is_at}
use Rattle.std.specs.BTreeSet.{insert_key}
use Rattle.std.specs.Cmp.{unsigned_tied}
use Rattle.std.specs.List.{list_any}
use Rattle.std.specs.List.Sorted.{IsStrictlySortedBy}
use Rattle.std.specs.Ordering.{nat_cmp}
use Rattle.std.proofs.lemmas.Map.Views.{length-le_from_below, All-insert_key}
use Rattle.list_walk.specs.Links.{AreLinks}
use Rattle.list_walk.specs.Objects.{links_left}
use Rattle.list_walk.specs.State.{WalkState}
use Rattle.list_walk.specs.Turn.{is_given}

-- a set of numbers finds those that are equal to one of its keys
pub given-is : (links : List ℕ) (link : ℕ) → list_any (is_at (nat_cmp link)) links ≡ list_any (λ given. link == given) links
given-is links link = ap (λ (test : ℕ → Bool). list_any test links) (λ i x. unsigned_tied link x i)

-- what a set of the links says of one
pub given-found : (walk : WalkState) (links : List ℕ) (link : ℕ) (found answer : Bool) → walk.given ≡ links → found ≡ list_any (is_at (nat_cmp link)) links → found ≡ answer → is_given walk link ≡ answer
given-found walk links link found answer same is says = ap (list_any (λ given. link == given)) same ∙ sym (given-is links link) ∙ sym is ∙ says

-- a new link is one more
pub one-more : (walk : WalkState) (old new : List ℕ) (link place : ℕ) (added : Bool) → walk.given ≡ old → place ≡ link → is_given walk place ≡ false → added ≡ not (list_any (is_at (nat_cmp link)) old) → length new ≡ length old + (if added then 1 else 0) → length new ≡ length walk.given + 1
one-more walk old new link place added same there fresh is count =
    let none : list_any (is_at (nat_cmp link)) old ≡ false = given-is old link ∙ ap (list_any (λ given. link == given)) (sym same) ∙ rw there at fresh in
    let one : added ≡ true = is ∙ ap not none in
    let more : length new ≡ length old + 1 = rw one at count in
    more ∙ ap (λ (links : List ℕ). length links + 1) (sym same)

-- a set that took one more link, or didn't
pub kept-links : {T E : Type 0} (result : Result T E) (old new : List ℕ) (link : ℕ) → AreLinks old → link < 2 ^ 64 → IsStrictlySortedBy nat_cmp new → OnOk result (new ≡ insert_key nat_cmp old link) → OnErr result (new ≡ old) → AreLinks new
kept-links (Ok value) old new link links below rise keys same = record { rise = rise; within = rw keys (All-insert_key nat_cmp link (λ l. l < 2 ^ 64) old links.within below) }
kept-links (Err fault) old new link links below rise keys same = rw same links

-- one link more leaves one less
pub one-less : (old new : WalkState) → AreLinks new.given → length new.given ≡ length old.given + 1 → links_left old ≡ links_left new + 1
unfolding links_left
one-less old new links more =
    let few : length new.given ≤ 2 ^ 64 = length-le_from_below (2 ^ 64) new.given links.rise links.within in
    omega (arith, few, more)

-- the same links leave as many
pub none-less : (old new : WalkState) → new.given ≡ old.given → links_left new ≡ links_left old
unfolding links_left
none-less old new same = rw same refl
