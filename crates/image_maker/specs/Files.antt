-- The files of a made machine: `/bin/tool`, and a pipe.
use Rattle.std.specs.Prelude.{ℕ, ◌+◌, List, [], ◌∷◌, codes}
use Rattle.image_maker.specs.Written.{word}
use Rattle.image_maker.specs.Machine.{virtual_at}

-- the root mount, which is its own parent
abbrev pub root_mount : ℕ → List (ℕ × List ℕ)
root_mount number =
    (0x9000, word (virtual_at number 0x9000))
    ∷ (0x9008, word (virtual_at number 0x9100))
    ∷ (0x9010, word (virtual_at number 0x9100))
    ∷ []

-- the parents and names of the dentries `/`, `bin` and `tool`
abbrev pub dentries : ℕ → List (ℕ × List ℕ)
dentries number =
    (0x9100, word (virtual_at number 0x9100))
    ∷ (0x9110, word (virtual_at number 0x9300))
    ∷ (0x9140, word (virtual_at number 0x9100))
    ∷ (0x9150, word (virtual_at number 0x9310))
    ∷ (0x9180, word (virtual_at number 0x9140))
    ∷ (0x9190, word (virtual_at number 0x9320))
    ∷ []

-- the texts of their names
abbrev pub names : List (ℕ × List ℕ)
names = (0x9300, codes "/") ∷ (0x9310, codes "bin") ∷ (0x9320, codes "tool") ∷ []

-- the dentry of a pipe: its parent, its name, its inode and its operations, then what these name and the inode's number
abbrev pub pipe : ℕ → List (ℕ × List ℕ)
pipe number =
    (0x91c0, word (virtual_at number 0x91c0))
    ∷ (0x91d0, word (virtual_at number 0x9330))
    ∷ (0x91d8, word (virtual_at number 0x9260))
    ∷ (0x91e0, word (virtual_at number 0x9240))
    ∷ (0x9240, word (virtual_at number 0xc100))
    ∷ (0x9260, word (1000 + number))
    ∷ []

-- the mounts and dentries of the open file and of the open pipe
abbrev pub open_files : ℕ → List (ℕ × List ℕ)
open_files number =
    (0x9400, word (virtual_at number 0x9010))
    ∷ (0x9408, word (virtual_at number 0x9180))
    ∷ (0x9440, word (virtual_at number 0x9010))
    ∷ (0x9448, word (virtual_at number 0x91c0))
    ∷ []
