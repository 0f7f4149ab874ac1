-- Where a command looks.
use Rattle.std.specs.Prelude.{ℕ, ◌+◌, ◌^◌, nat_le, if◌then◌else◌, List, Option, None, Some, Result, Ok, Err}
use Rattle.layer_base.specs.Space.{page_address}
use Rattle.layer_base.specs.declared.space.Space.{Space}
use Rattle.layer_base.specs.declared.space.Space.TheVariants as spaces
use Rattle.command_words.specs.declared.command.AddrWord.{AddrWord}
use Rattle.command_words.specs.declared.command.AddrWord.TheVariants as addresses
use Rattle.command_words.specs.declared.command.SpaceWord.{SpaceWord}
use Rattle.command_words.specs.declared.command.SpaceWord.TheVariants as words
use Rattle.kernel_records.specs.Groups.{space_needs}
use Rattle.kernel_records.specs.Shift.{shifted}
use Rattle.kernel_records.specs.declared.kernel.Kernel.{Kernel}
use Rattle.kernel_records.specs.declared.need.Need.{Need}
use Rattle.task_plugins.specs.TaskSpace.{task_space}
use Rattle.task_plugins.specs.declared.task_space.TaskSpace.{TaskSpace}
use Rattle.task_plugins.specs.declared.task_space.TaskSpace.TheVariants as task_spaces
use Rattle.typed_object.specs.Ground.{kernel_space}
use Rattle.typed_object.specs.Needs.{symbol_address, first_missing}
use Rattle.session.specs.Evidence.{Evidence}
use Rattle.session.specs.Kernel.{kernel_of}
use Rattle.session.specs.Refusal.{and_then, text_over, said_over}
use Rattle.session.specs.Said.{Said}
use Rattle.session.specs.declared.place.Place.{Place}
use Rattle.session.specs.declared.refusal.CommandRefusal.{CommandRefusal}
use Rattle.session.specs.declared.refusal.CommandRefusal.TheVariants.{Missing, NoTask, NoSpace, NoSymbol, OutOfRange}

-- the space that a task has, or why it has none
abbrev pub task_space_or_refusal : ℕ → TaskSpace → Result Space CommandRefusal
task_space_or_refusal pid (task_spaces.Found space) = Ok space
task_space_or_refusal pid task_spaces.NoTask = Err (NoTask pid)
task_space_or_refusal pid task_spaces.NoSpace = Err (NoSpace pid)

-- the first missing name, or else what is answered where none is
abbrev pub unless_missing : {A : Type 0} → Option Need → Result A CommandRefusal → Result A CommandRefusal
unless_missing None answer = answer
unless_missing (Some need) answer = Err (Missing need)

-- the space of the task of a PID, or why there is none
abbrev pub space_of_pid : Evidence → ℕ → Kernel → Result Space CommandRefusal
space_of_pid evidence pid kernel = unless_missing (first_missing evidence.table space_needs) (task_space_or_refusal pid (task_space evidence.memory evidence.table kernel pid))

-- the space of a word
unfoldable pub space_of : Evidence → SpaceWord → Result Space CommandRefusal
space_of evidence words.Phys = Ok spaces.Phys
space_of evidence words.Kernel = and_then (kernel_of evidence) (λ kernel. Ok (kernel_space kernel))
space_of evidence (words.Task pid) = and_then (kernel_of evidence) (space_of_pid evidence pid)
space_of evidence (words.Root root levels) = Ok (spaces.Paged (page_address root) levels)

-- the address of a symbol, moved by the kernel's shift
abbrev pub moved_symbol : Kernel → List ℕ → Option ℕ → Result ℕ CommandRefusal
moved_symbol kernel name (Some at) = Ok (shifted kernel at)
moved_symbol kernel name None = Err (NoSymbol name)

-- the address of a word, which is the same in every space
unfoldable pub address_of : Evidence → AddrWord → Result ℕ CommandRefusal
address_of evidence (addresses.Number at) = Ok at
address_of evidence (addresses.Symbol name) = and_then (kernel_of evidence) (λ kernel. moved_symbol kernel name (symbol_address evidence.table name))

-- an address in a space, unless so many bytes from it on pass the last address
abbrev pub in_range : ℕ → Space → ℕ → Result Place CommandRefusal
in_range len space at = if nat_le (at + len) (2 ^ 64) then Ok (record { space = space; at = at }) else Err OutOfRange

-- The place of so many bytes from an address of a space on, or the first that holds of these: the kernel is needed and
-- not found; the symbol file lacks a name that the space of a task needs; no task has the PID; the task has no space; no
-- symbol has the name; the bytes pass the last address.
unfoldable pub place_of : Evidence → SpaceWord → AddrWord → ℕ → Result Place CommandRefusal
place_of evidence space at len = and_then (space_of evidence space) (λ space. and_then (address_of evidence at) (in_range len space))

-- what is printed of a place, or why there is none
abbrev pub text_at : Evidence → SpaceWord → AddrWord → ℕ → (Place → List ℕ) → List ℕ
text_at evidence space at len text = text_over (place_of evidence space at len) text

-- what is said of a place, or why there is none
abbrev pub said_at : Evidence → SpaceWord → AddrWord → ℕ → (Place → Said) → Said
said_at evidence space at len says = said_over (place_of evidence space at len) says
