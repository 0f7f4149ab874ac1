use Rattle.std.proofs.Common.{◌≡◌, map, take}
use Rattle.serde_json.specs.Data.{no_members}
use Rattle.serde_json.specs.View.{members_view}
use Rattle.image_maker.specs.Json.{put_all}
use Rattle.image_maker.specs.Types.{structure_member}
use Rattle.image_maker.proofs.types.structure_object.Given as goal

-- the members so far are in the object
abbrev pub invariant-loop-structure : goal.invariant-loop-structure
invariant-loop-structure l = members_view l.members.entries ≡ put_all (map structure_member (take l.structure-index l.structures)) no_members
