-- The laws of one turn.
use Rattle.std.proofs.Common.{◌≡◌, ℕ, Option, None, Some, Result, Ok, Err, refl, sym, ap, ◌∙◌}
use Rattle.layer_base.specs.AddressSpace.{AddressSpace}
use Rattle.kernel_records.specs.declared.stop.Stop.{Stop}
use Rattle.list_walk.specs.State.{WalkState}
use Rattle.list_walk.specs.Turn.{base_of, offset_of, word_behind, end_at, object_at, turn_with, turn_unless, turn}
use Rattle.list_walk.specs.declared.turn.Turn.TheVariants.{Stopped}

module _ (memory : AddressSpace) (walk : WalkState) where
  -- a stopped walk answers its stop
  pub turn-stopped : (stop : Stop) → walk.stop ≡ Some stop → Stopped stop ≡ turn memory walk
  unfolding turn
  turn-stopped stop is = sym (ap (turn_unless memory walk) is)

  module _ (none : walk.stop ≡ None) where
    turn-read : (first : Result ℕ Stop) → first ≡ word_behind memory (base_of walk) (offset_of walk) → turn_with memory walk first ≡ turn memory walk
    unfolding turn
    turn-read first is = ap (turn_with memory walk) is ∙ sym (ap (turn_unless memory walk) none)

    -- there is no next word
    pub turn-wordless : (stop : Stop) → Err stop ≡ word_behind memory (base_of walk) (offset_of walk) → Stopped stop ≡ turn memory walk
    turn-wordless stop is = turn-read (Err stop) is

    -- it is a link
    pub turn-link : (link : ℕ) (end : Option Stop) (second : Result ℕ Stop) → Ok link ≡ word_behind memory (base_of walk) (offset_of walk) → end ≡ end_at walk link → second ≡ word_behind memory link walk.next → object_at walk link end second ≡ turn memory walk
    turn-link link end second is ends follows =
        ap (λ e. object_at walk link e second) ends ∙ ap (object_at walk link (end_at walk link)) follows ∙ turn-read (Ok link) is

    -- which stops the walk before its own next word is read
    pub turn-ended : (link : ℕ) (stop : Stop) → Ok link ≡ word_behind memory (base_of walk) (offset_of walk) → Some stop ≡ end_at walk link → Stopped stop ≡ turn memory walk
    turn-ended link stop is ends = turn-link link (Some stop) (word_behind memory link walk.next) is ends refl
