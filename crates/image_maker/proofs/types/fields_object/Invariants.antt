use Rattle.std.proofs.Common.{◌≡◌, map, take}
use Rattle.serde_json.specs.Data.{no_members}
use Rattle.serde_json.specs.View.{members_view}
use Rattle.image_maker.specs.Json.{put_all}
use Rattle.image_maker.specs.Seen.{field_seen}
use Rattle.image_maker.specs.Types.{field_member}
use Rattle.image_maker.proofs.types.fields_object.Given as goal

-- the members so far are in the object
abbrev pub invariant-loop-field : goal.invariant-loop-field
invariant-loop-field l = members_view l.members.entries ≡ put_all (map (λ field. field_member (field_seen field)) (take l.field-index l.fields)) no_members
