-- The path of a file.
use Rattle.std.specs.Prelude.{ℕ, zero, suc, ◌-◌, List, [], ◌∷◌, ◌++◌, ◌==◌, ◌&&◌, Bool, nat_lt, if◌then◌else◌, Option, None, Some, codes}
use Rattle.std.specs.List.{list_any, join_with_byte}
use Rattle.layer_base.specs.AddressSpace.{AddressSpace}
use Rattle.isf_reader.specs.Table.{IsfTable}
use Rattle.kernel_records.specs.declared.kernel.Kernel.{Kernel}
use Rattle.kernel_records.specs.declared.path_text.PathText.{PathText}
use Rattle.kernel_records.specs.declared.stop.Stop.{Stop}
use Rattle.kernel_records.specs.declared.stop.Stop.TheVariants as stops
use Rattle.typed_object.specs.Members.{offset_of}
use Rattle.path_walk.specs.Special.{special, special_text}
use Rattle.path_walk.specs.Spots.{mount_part}
use Rattle.path_walk.specs.Turn.{turn}
use Rattle.path_walk.specs.declared.special.Special.{Special}
use Rattle.path_walk.specs.declared.turn.Turn.{Turn}
use Rattle.path_walk.specs.declared.turn.Turn.TheVariants as turns

-- a path that came to its head begins at the root, any other at a place that isn't known
abbrev pub start_of : Stop → List ℕ
start_of stops.Head = codes "/"
start_of _ = codes "?/"

-- a slash, where there is to be one
abbrev pub slash_if : Bool → List ℕ
slash_if more = if more then codes "/" else []

-- a path of these names, the one next to the root first
unfoldable pub ended : List (List ℕ) → Stop → PathText
ended names stop = record { text = start_of stop ++ join_with_byte 47 names; stop = stop }

-- whether a mount and a dentry are among those that were met
unfoldable pub was_met : List (ℕ × ℕ) → ℕ → ℕ → Bool
was_met met mount dentry = list_any (λ pair. pair.0 == mount && pair.1 == dentry) met

-- what follows a turn at a mount
abbrev pub after : (List (List ℕ) → ℕ → ℕ → PathText) → List (List ℕ) → ℕ → Turn → PathText
after above names mount (turns.Mounted parent dentry) = above names parent dentry
after above names mount (turns.Named name parent) = above (name ∷ names) mount parent
after above names mount (turns.Stopped stop) = ended names stop

-- The path that is left to follow from a mount and a dentry, in so many turns, where these pairs were met and these names
-- found: a pair that was met before ends it.
unfoldable pub follow : AddressSpace → IsfTable → ℕ → List (ℕ × ℕ) → List (List ℕ) → ℕ → ℕ → PathText
follow memory table zero met names mount dentry = ended names (stops.Limit 4096)
follow memory table (suc left) met names mount dentry =
    if was_met met mount dentry then ended names (stops.Repeated dentry)
    else after (follow memory table left ((mount, dentry) ∷ met)) names mount (turn memory table mount dentry)

-- the path of a dentry of a mount, which is known by the part that files point to
unfoldable pub followed : AddressSpace → IsfTable → ℕ → ℕ → PathText
followed memory table mnt dentry =
    if nat_lt mnt (offset_of (mount_part table)) then ended [] (stops.Outside mnt)
    else follow memory table 4096 [] [] (mnt - offset_of (mount_part table)) dentry

abbrev pub path_by : AddressSpace → IsfTable → ℕ → ℕ → Option Special → PathText
path_by memory table mnt dentry (Some kind) = record { text = special_text memory table dentry kind; stop = stops.Head }
path_by memory table mnt dentry None = followed memory table mnt dentry

-- the path of a mount and a dentry in the memory of a kernel, and why it ended
unfoldable pub path_text : AddressSpace → IsfTable → Kernel → ℕ → ℕ → PathText
path_text memory table kernel mnt dentry = path_by memory table mnt dentry (special memory table kernel dentry)
