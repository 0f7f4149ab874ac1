use Rattle.std.proofs.Common.{◌≡◌, map, take}
use Rattle.serde_json.specs.Data.{no_members}
use Rattle.serde_json.specs.View.{members_view}
use Rattle.image_maker.specs.Json.{put_all}
use Rattle.image_maker.specs.Seen.{base_seen}
use Rattle.image_maker.specs.Types.{base_member}
use Rattle.image_maker.proofs.types.base_object.Given as goal

-- the members so far are in the object
abbrev pub invariant-loop-row : goal.invariant-loop-row
invariant-loop-row l = members_view l.members.entries ≡ put_all (map (λ row. base_member (base_seen row)) (take l.row-index l.rows)) no_members
