-- A path on its way.
use Rattle.std.specs.Prelude.{◌≡◌, ℕ, suc, Bool, not, List, ◌∷◌, reverse, Option, None, Some}
use Rattle.std.specs.BTreeSet.{BTreeSet, contains}
use Rattle.std.specs.Ordering.{nat_cmp, ordering_then}
use Rattle.std.specs.declared.cmp.Ordering.{Ordering}
use Rattle.layer_base.specs.AddressSpace.{AddressSpace}
use Rattle.isf_reader.specs.Table.{IsfTable}
use Rattle.kernel_records.specs.declared.path_text.PathText.{PathText}
use Rattle.kernel_records.specs.declared.stop.Stop.{Stop}
use Rattle.path_walk.specs.Path.{after, ended, follow, was_met}
use Rattle.path_walk.specs.declared.turn.Turn.{Turn}
use Rattle.path_walk.specs.declared.way.Way.{Way}

-- pairs in the order of a mount, then of a dentry
abbrev pub pair_cmp : ℕ × ℕ → ℕ × ℕ → Ordering
pair_cmp a b = ordering_then (nat_cmp a.0 b.0) (nat_cmp a.1 b.1)

-- the pairs of a set are those that were met
abbrev pub AreMet : BTreeSet (ℕ × ℕ) → List (ℕ × ℕ) → Type 0
AreMet pairs met = (mount dentry : ℕ) → contains pair_cmp pairs (mount, dentry) ≡ was_met met mount dentry

-- a mount and a dentry are among those that were met now, and it is told whether they are new
abbrev pub Meets : BTreeSet (ℕ × ℕ) → BTreeSet (ℕ × ℕ) → ℕ → ℕ → Bool → Type 0
Meets old new mount dentry fresh = (met : List (ℕ × ℕ)) → AreMet old met → (fresh ≡ not (was_met met mount dentry)) × AreMet new ((mount, dentry) ∷ met)

-- the path that is left, where so many turns may be made and these pairs were met
abbrev pub path_left : AddressSpace → IsfTable → ℕ → List (ℕ × ℕ) → Way → PathText
path_left memory table left met way = follow memory table left met (reverse way.names.items) way.mount way.dentry

-- what follows a turn is what follows where the way leads then; or the path has ended
abbrev pub Passes : Way → Way → Turn → Option Stop → Type 0
Passes old new turn None = (above : List (List ℕ) → ℕ → ℕ → PathText) → after above (reverse old.names.items) old.mount turn ≡ above (reverse new.names.items) new.mount new.dentry
Passes old new turn (Some stop) = (above : List (List ℕ) → ℕ → ℕ → PathText) → after above (reverse old.names.items) old.mount turn ≡ ended (reverse new.names.items) stop

-- one of the turns that may be made was made; or the path has ended
abbrev pub Advances : AddressSpace → IsfTable → Way → Way → Option Stop → Type 0
Advances memory table old new None =
    (met : List (ℕ × ℕ)) → AreMet old.met met → (met' : List (ℕ × ℕ)) × AreMet new.met met' × ((left : ℕ) → path_left memory table (suc left) met old ≡ path_left memory table left met' new)
Advances memory table old new (Some stop) =
    (met : List (ℕ × ℕ)) → AreMet old.met met → (left : ℕ) → path_left memory table (suc left) met old ≡ ended (reverse new.names.items) stop
