-- The laws of why a walk stops at a link.
use Rattle.std.proofs.Common.{◌≡◌, ◌≢◌, ℕ, ◌<◌, ◌≤◌, ◌==◌, true, false, None, Some, refl, arith}
use Rattle.std.specs.Prelude.{nat_lt}
use Rattle.std.proofs.lemmas.Bool.Decides.{nat_tests}
use Rattle.kernel_records.specs.declared.stop.Stop.TheVariants.{Repeated, Outside}
use Rattle.list_walk.specs.State.{WalkState}
use Rattle.list_walk.specs.Turn.{is_given, end_link, end_stop, end_at}

module _ (walk : WalkState) (link : ℕ) where
  pub at-its-end : link ≡ end_link walk → Some (end_stop walk) ≡ end_at walk link
  unfolding end_at
  at-its-end is =
      let same : (link == end_link walk) ≡ true = grind (arith, nat_tests) in
      rw same refl

  module _ (further : link ≢ end_link walk) where
    other : (link == end_link walk) ≡ false
    other = grind (arith, nat_tests)

    pub at-given : is_given walk link ≡ true → Some (Repeated link) ≡ end_at walk link
    unfolding end_at
    at-given given = rw (other, given) refl

    pub at-low : is_given walk link ≡ false → link < walk.back → Some (Outside link) ≡ end_at walk link
    unfolding end_at
    at-low new low =
        let below : nat_lt link walk.back ≡ true = grind (arith, nat_tests) in
        rw (other, new, below) refl

    pub at-free : is_given walk link ≡ false → walk.back ≤ link → None ≡ end_at walk link
    unfolding end_at
    at-free new high =
        let above : nat_lt link walk.back ≡ false = grind (arith, nat_tests) in
        rw (other, new, above) refl
