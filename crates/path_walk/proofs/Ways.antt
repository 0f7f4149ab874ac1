-- Turns of a path on its way.
use Rattle.std.proofs.Common.{◌≡◌, ℕ, suc, ◌+◌, ◌-◌, ◌<◌, ◌≤◌, List, [], ◌∷◌, Bool, true, false, Option, None, Some, refl, sym, ◌∙◌, ap, subst, arith}
use Rattle.std.specs.Prelude.{not, reverse}
use Rattle.std.specs.BTreeSet.{BTreeSet}
use Rattle.layer_base.specs.AddressSpace.{AddressSpace}
use Rattle.isf_reader.specs.Table.{IsfTable}
use Rattle.kernel_records.specs.declared.stop.Stop.{Stop}
use Rattle.kernel_records.specs.declared.stop.Stop.TheVariants.{Repeated, Limit}
use Rattle.path_walk.specs.Path.{after, ended, follow, was_met}
use Rattle.path_walk.specs.Turn.{turn}
use Rattle.path_walk.specs.Way.{AreMet, Meets, Passes, Advances, path_left}
use Rattle.path_walk.specs.declared.way.Way.{Way}
use Rattle.path_walk.specs.declared.turn.Turn.{Turn}

is-met : (met : Bool) → false ≡ not met → met ≡ true
is-met true told = refl
is-met false told = absurd (cc told)

is-new : (met : Bool) → true ≡ not met → met ≡ false
is-new true told = absurd (cc told)
is-new false told = refl

module _ (memory : AddressSpace) (table : IsfTable) where
  -- a pair that was met before ends the path
  follow-again : (left : ℕ) (met : List (ℕ × ℕ)) (names : List (List ℕ)) (mount dentry : ℕ) → was_met met mount dentry ≡ true → follow memory table (suc left) met names mount dentry ≡ ended names (Repeated dentry)
  unfolding follow
  follow-again left met names mount dentry again = rw again refl

  -- a new one is followed by its turn
  follow-on : (left : ℕ) (met : List (ℕ × ℕ)) (names : List (List ℕ)) (mount dentry : ℕ) → was_met met mount dentry ≡ false → follow memory table (suc left) met names mount dentry ≡ after (follow memory table left ((mount, dentry) ∷ met)) names mount (turn memory table mount dentry)
  unfolding follow
  follow-on left met names mount dentry fresh = rw fresh refl

  module _ (old : Way) (pairs : BTreeSet (ℕ × ℕ)) where
    pub step-again : Meets old.met pairs old.mount old.dentry false → Advances memory table old (record old { met = pairs }) (Some (Repeated old.dentry))
    step-again meets met are left = follow-again left met (reverse old.names.items) old.mount old.dentry (is-met _ (meets met are).0)

    module _ (new : Way) (made : Turn) (meets : Meets old.met pairs old.mount old.dentry true) (is : made ≡ turn memory table old.mount old.dentry) (same : new.met ≡ pairs) where
      -- what follows is what the turn leads to
      turned : (left : ℕ) (met : List (ℕ × ℕ)) → AreMet old.met met → follow memory table (suc left) met (reverse old.names.items) old.mount old.dentry ≡ after (follow memory table left ((old.mount, old.dentry) ∷ met)) (reverse old.names.items) old.mount made
      turned left met are =
          follow-on left met (reverse old.names.items) old.mount old.dentry (is-new _ (meets met are).0)
          ∙ ap (after (follow memory table left ((old.mount, old.dentry) ∷ met)) (reverse old.names.items) old.mount) (sym is)

      pub step-passed : (outcome : Option Stop) → Passes (record old { met = pairs }) new made outcome → Advances memory table old new outcome
      step-passed None passes = λ met are. (
        (old.mount, old.dentry) ∷ met,
        subst (λ (set : BTreeSet (ℕ × ℕ)). AreMet set ((old.mount, old.dentry) ∷ met)) (sym same) (meets met are).1,
        λ left. turned left met are ∙ passes (follow memory table left ((old.mount, old.dentry) ∷ met)),
      )
      step-passed (Some stop) passes = λ met are left. turned left met are ∙ passes (follow memory table left ((old.mount, old.dentry) ∷ met))

  -- after so many turns, the path that is left is that of the beginning
  abbrev pub IsLeft : Way → ℕ → Way → Type 0
  IsLeft first turns way = (met : List (ℕ × ℕ)) × AreMet way.met met × (path_left memory table 4096 [] first ≡ path_left memory table (4096 - turns) met way)

  module _ (first old new : Way) (turns : ℕ) where
    one-less : turns < 4096 → 4096 - turns ≡ suc (4096 - (turns + 1))
    one-less fewer = omega arith

    pub left-on : turns < 4096 → IsLeft first turns old → Advances memory table old new None → IsLeft first (turns + 1) new
    left-on fewer left made =
        let next = made left.0 left.1 in
        (next.0, next.1, left.2 ∙ ap (λ (n : ℕ). path_left memory table n left.0 old) (one-less fewer) ∙ next.2 (4096 - (turns + 1)))

    pub left-ended : (stop : Stop) → turns < 4096 → IsLeft first turns old → Advances memory table old new (Some stop) → path_left memory table 4096 [] first ≡ ended (reverse new.names.items) stop
    left-ended stop fewer left made = left.2 ∙ ap (λ (n : ℕ). path_left memory table n left.0 old) (one-less fewer) ∙ made left.0 left.1 (4096 - (turns + 1))

    pub left-at-the-limit : 4096 ≤ turns → IsLeft first turns old → path_left memory table 4096 [] first ≡ ended (reverse old.names.items) (Limit 4096)
    unfolding follow
    left-at-the-limit all left =
        let none : 4096 - turns ≡ 0 = omega arith in
        left.2 ∙ ap (λ (n : ℕ). path_left memory table n left.0 old) none
