-- One turn of a walk.
use Rattle.std.specs.Prelude.{ℕ, ◌+◌, ◌-◌, ◌^◌, Bool, ◌==◌, ◌||◌, nat_lt, if◌then◌else◌, Option, None, Some, is_some, unwrap_or, Result, Ok, Err}
use Rattle.std.specs.BTreeSet.{insert_key}
use Rattle.std.specs.List.{list_any}
use Rattle.std.specs.Ordering.{nat_cmp}
use Rattle.layer_base.specs.AddressSpace.{AddressSpace}
use Rattle.intel_paging.specs.Word.{word}
use Rattle.kernel_records.specs.declared.stop.Stop.{Stop}
use Rattle.kernel_records.specs.declared.stop.Stop.TheVariants.{Head, End, Repeated, Unreadable, Outside}
use Rattle.list_walk.specs.State.{WalkState}
use Rattle.list_walk.specs.declared.turn.Turn.{Turn}
use Rattle.list_walk.specs.declared.turn.Turn.TheVariants.{Object, Stopped}

-- a word that was read, or a stop at an address where a byte of it is absent
abbrev pub word_or_stop : ℕ → Option ℕ → Result ℕ Stop
word_or_stop at None = Err (Unreadable at)
word_or_stop at (Some number) = Ok number

-- the word so many bytes behind an address; a place above 2 ^ 64 - 8 is outside
unfoldable pub word_behind : AddressSpace → ℕ → ℕ → Result ℕ Stop
word_behind memory at offset = if nat_lt (2 ^ 64 - 8) (at + offset) then Err (Outside at) else word_or_stop at (word memory (at + offset))

-- the next word stands behind the link that was given last, at first behind the head or at the place
abbrev pub base_of : WalkState → ℕ
base_of walk = unwrap_or walk.last walk.start

-- and how far behind it
abbrev pub offset_of : WalkState → ℕ
offset_of walk = if walk.is_ring || is_some walk.last then walk.next else 0

-- the walk gave this link
abbrev pub is_given : WalkState → ℕ → Bool
is_given walk link = list_any (λ given. link == given) walk.given

-- a ring ends at its head, a chain at 0
abbrev pub end_link : WalkState → ℕ
end_link walk = if walk.is_ring then walk.start else 0

-- and the stop says so
abbrev pub end_stop : WalkState → Stop
end_stop walk = if walk.is_ring then Head else End

-- The first of these that holds stops the walk at a link: it is the end, it was given before, or its object would start
-- below address 0.
unfoldable pub end_at : WalkState → ℕ → Option Stop
end_at walk link =
    if link == end_link walk then Some (end_stop walk)
    else if is_given walk link then Some (Repeated link)
    else if nat_lt link walk.back then Some (Outside link)
    else None

-- a link leads to an object whose next word could be read, or stops the walk
abbrev pub object_at : WalkState → ℕ → Option Stop → Result ℕ Stop → Turn
object_at walk link (Some stop) word = Stopped stop
object_at walk link None (Err stop) = Stopped stop
object_at walk link None (Ok word) = Object (link - walk.back)

-- what the next word, or the want of it, leads to
abbrev pub turn_with : AddressSpace → WalkState → Result ℕ Stop → Turn
turn_with memory walk (Err stop) = Stopped stop
turn_with memory walk (Ok link) = object_at walk link (end_at walk link) (word_behind memory link walk.next)

-- the turn of a walk that hasn't stopped, or the stop of one that has
abbrev pub turn_unless : AddressSpace → WalkState → Option Stop → Turn
turn_unless memory walk (Some stop) = Stopped stop
turn_unless memory walk None = turn_with memory walk (word_behind memory (base_of walk) (offset_of walk))

-- one turn of a walk over the memory of its space: the next object, or why there is none
unfoldable pub turn : AddressSpace → WalkState → Turn
turn memory walk = turn_unless memory walk walk.stop

-- the walk behind a turn: it gave the object's link, or keeps the stop
abbrev pub after : WalkState → Turn → WalkState
after walk (Object at) = record walk { given = insert_key nat_cmp walk.given (at + walk.back); last = Some (at + walk.back) }
after walk (Stopped stop) = record walk { stop = Some stop }
