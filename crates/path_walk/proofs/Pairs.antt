-- Pairs of a mount and a dentry that were met.
use Rattle.std.proofs.Common.{◌≡◌, ℕ, [], Bool, true, false, cond, refl, ◌∙◌, ap}
use Rattle.std.specs.Prelude.{not, ◌&&◌, ◌||◌, ◌==◌}
use Rattle.std.specs.BTreeMap.{is_at}
use Rattle.std.specs.BTreeSet.{BTreeSet, contains, Updates, IsEmpty}
use Rattle.std.specs.Cmp.{unsigned_tied}
use Rattle.std.specs.Ordering.{nat_cmp, is_eq, ordering_then}
use Rattle.std.specs.declared.cmp.Ordering.{Ordering}
use Rattle.std.specs.declared.cmp.Ordering.TheVariants.{Less, Equal, Greater}
use Rattle.path_walk.specs.Path.{was_met}
use Rattle.path_walk.specs.Way.{pair_cmp, AreMet, Meets}

both-equal : (first second : Ordering) → is_eq (ordering_then first second) ≡ (is_eq first && is_eq second)
both-equal Less second = refl
both-equal Equal second = refl
both-equal Greater second = refl

-- the order finds just the pair itself
same-pair : (a b : ℕ × ℕ) → is_at (pair_cmp a) b ≡ (a.0 == b.0 && a.1 == b.1)
same-pair a b =
    both-equal (nat_cmp a.0 b.0) (nat_cmp a.1 b.1) ∙ ap (λ (same : Bool). same && is_eq (nat_cmp a.1 b.1)) (unsigned_tied a.0 b.0)
    ∙ ap (λ (same : Bool). (a.0 == b.0) && same) (unsigned_tied a.1 b.1)

found-or : (same before : Bool) → cond same true before ≡ (same || before)
found-or true before = refl
found-or false before = refl

-- no pair was met so far
pub none-met : (pairs : BTreeSet (ℕ × ℕ)) → IsEmpty pairs → AreMet pairs []
unfolding was_met
none-met pairs empty mount dentry = rw empty refl

-- a pair that a set takes in was met
pub pair-met : (old new : BTreeSet (ℕ × ℕ)) (mount dentry : ℕ) (fresh : Bool) → fresh ≡ not (contains pair_cmp old (mount, dentry)) → Updates pair_cmp old new (mount, dentry) true → Meets old new mount dentry fresh
unfolding was_met
pair-met old new mount dentry fresh told updates met are = (
  told ∙ ap not (are mount dentry),
  λ other place. updates.0 (other, place) ∙ ap (λ (same : Bool). cond same true (contains pair_cmp old (other, place))) (same-pair (mount, dentry) (other, place))
      ∙ found-or (mount == other && dentry == place) (contains pair_cmp old (other, place)) ∙ ap (λ (before : Bool). (mount == other && dentry == place) || before) (are other place),
)
