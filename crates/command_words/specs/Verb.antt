-- The words that name a command.
use Rattle.std.specs.Prelude.{ℕ, List, [], ◌∷◌, codes, Option, find}
use Rattle.std.specs.Str.{bytes_eq}
use Rattle.command_words.specs.declared.verb.Verb.{Verb}
use Rattle.command_words.specs.declared.verb.Verb.TheVariants.{Banners, Kernel, Pslist, Pstree, Lsmod, CheckSyscall, Quit, Maps, Lsof, Read, Dump, Show, Layout, Symbol, Near, Translate, Scan}

-- the word that names a command
abbrev pub word_of : Verb → List ℕ
word_of Banners = codes "banners"
word_of Kernel = codes "kernel"
word_of Pslist = codes "pslist"
word_of Pstree = codes "pstree"
word_of Lsmod = codes "lsmod"
word_of CheckSyscall = codes "check_syscall"
word_of Quit = codes "quit"
word_of Maps = codes "maps"
word_of Lsof = codes "lsof"
word_of Read = codes "read"
word_of Dump = codes "dump"
word_of Show = codes "type"
word_of Layout = codes "layout"
word_of Symbol = codes "symbol"
word_of Near = codes "near"
word_of Translate = codes "translate"
word_of Scan = codes "scan"

-- every command
abbrev pub verbs : List Verb
verbs =
    Banners ∷ Kernel ∷ Pslist ∷ Pstree ∷ Lsmod ∷ CheckSyscall ∷ Quit ∷ Maps ∷ Lsof ∷ Read ∷ Dump ∷ Show ∷ Layout ∷ Symbol ∷ Near ∷ Translate ∷ Scan ∷ []

-- the command that a word names
abbrev pub verb_of : List ℕ → Option Verb
verb_of word = find (λ verb. bytes_eq (word_of verb) word) verbs
