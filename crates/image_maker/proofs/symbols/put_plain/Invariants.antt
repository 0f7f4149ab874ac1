use Rattle.std.proofs.Common.{◌≡◌, map, take}
use Rattle.serde_json.specs.View.{members_view}
use Rattle.image_maker.specs.Json.{put_all}
use Rattle.image_maker.specs.Seen.{symbol_seen}
use Rattle.image_maker.specs.Symbols.{plain_member}
use Rattle.image_maker.proofs.symbols.put_plain.Given as goal

-- the members so far are in the object
abbrev pub invariant-loop-symbol : goal.invariant-loop-symbol
invariant-loop-symbol l = members_view l.members.entries ≡ put_all (map (λ symbol. plain_member (symbol_seen symbol)) (take l.symbol-index l.symbols)) (members_view l.fn.members.entries)
