-- What words ask for, and where they are refused.
use Rattle.std.proofs.Common.{◌≡◌, ℕ, true, false, List, Option, Some, None, codes, refl}
use Rattle.clap.specs.Words.{Text}
use Rattle.program_words.specs.CommandLine.{fits, text_of}
use Rattle.program_words.specs.Settings.{cache_of, chunk_of, settings_of}

-- the words do not fit
pub misfit : (words : List Text) → fits words ≡ false → settings_of words ≡ None
unfolding settings_of
misfit words fit = rw fit refl

-- one of the settings is not there
pub no_image : (words : List Text) → fits words ≡ true → text_of (codes "IMAGE") words ≡ None → settings_of words ≡ None
unfolding settings_of
no_image words fit image = rw (fit, image) refl

pub no_symbols : (words : List Text) {image : Text} → fits words ≡ true → text_of (codes "IMAGE") words ≡ Some image
    → text_of (codes "SYMBOLS") words ≡ None → settings_of words ≡ None
unfolding settings_of
no_symbols words fit image symbols = rw (fit, image, symbols) refl

pub no_cache : (words : List Text) {image symbols : Text} → fits words ≡ true → text_of (codes "IMAGE") words ≡ Some image
    → text_of (codes "SYMBOLS") words ≡ Some symbols → cache_of words ≡ None → settings_of words ≡ None
unfolding settings_of
no_cache words fit image symbols cache = rw (fit, image, symbols, cache) refl

pub no_chunk : (words : List Text) {image symbols : Text} {cache : ℕ} → fits words ≡ true → text_of (codes "IMAGE") words ≡ Some image
    → text_of (codes "SYMBOLS") words ≡ Some symbols → cache_of words ≡ Some cache → chunk_of words ≡ None → settings_of words ≡ None
unfolding settings_of
no_chunk words fit image symbols cache chunk = rw (fit, image, symbols, cache, chunk) refl

-- all are there
pub known : (words : List Text) {image symbols : Text} {dump : Option Text} {cache chunk : ℕ} → fits words ≡ true
    → text_of (codes "IMAGE") words ≡ Some image → text_of (codes "SYMBOLS") words ≡ Some symbols → text_of (codes "DUMP") words ≡ dump
    → cache_of words ≡ Some cache → chunk_of words ≡ Some chunk
    → settings_of words ≡ Some (record { image = image; symbols = symbols; dump = dump; cache = cache; chunk = chunk })
unfolding settings_of
known words fit image symbols dump cache chunk = rw (fit, image, symbols, dump, cache, chunk) refl
