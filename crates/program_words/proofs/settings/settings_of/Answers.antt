use Rattle.std.proofs.Common.{◌≡◌, ◌∙◌, Some, None, map, option_map, rules, sym, ap}
use Rattle.std.specs.Prelude.{string_bytes}
use Rattle.program_words.specs.Settings.{number_or}
use Rattle.program_words.proofs.Asked.{known, misfit, no_cache, no_chunk, no_image, no_symbols}
use Rattle.program_words.proofs.settings.settings_of.Goals as goal

pub returns-in_err-found-clause-usage : goal.returns-in_err-found-clause-usage
returns-in_err-found-clause-usage c refused = misfit (map string_bytes c.args.words.now) (search rules)

pub returns-in_err-image-clause-usage : goal.returns-in_err-image-clause-usage
returns-in_err-image-clause-usage c refused =
    let image : c.in_ok-found.found.image ≡ None = search rules in
    no_image (map string_bytes c.args.words.now) c.in_ok-found.ensures.fits (sym c.in_ok-found.ensures.image ∙ ap (option_map (λ text. text.now)) image)

pub returns-in_err-symbols-clause-usage : goal.returns-in_err-symbols-clause-usage
returns-in_err-symbols-clause-usage c refused =
    let image : c.in_ok-found.found.image ≡ Some c.in_ok-image.image = search rules in
    let symbols : c.in_ok-found.found.symbols ≡ None = search rules in
    no_symbols (map string_bytes c.args.words.now) c.in_ok-found.ensures.fits
    (sym c.in_ok-found.ensures.image ∙ ap (option_map (λ text. text.now)) image)
    (sym c.in_ok-found.ensures.symbols ∙ ap (option_map (λ text. text.now)) symbols)

pub returns-in_err-cache-clause-usage : goal.returns-in_err-cache-clause-usage
returns-in_err-cache-clause-usage c refused =
    let image : c.in_ok-found.found.image ≡ Some c.in_ok-image.image = search rules in
    let symbols : c.in_ok-found.found.symbols ≡ Some c.in_ok-symbols.symbols = search rules in
    let cache : c.cache_of.result ≡ None = search rules in
    no_cache (map string_bytes c.args.words.now) c.in_ok-found.ensures.fits
    (sym c.in_ok-found.ensures.image ∙ ap (option_map (λ text. text.now)) image)
    (sym c.in_ok-found.ensures.symbols ∙ ap (option_map (λ text. text.now)) symbols)
    (ap (number_or 4096 0 1048576) (sym c.in_ok-found.ensures.cache) ∙ sym c.cache_of.ensures.value ∙ cache)

pub returns-in_err-chunk-clause-usage : goal.returns-in_err-chunk-clause-usage
returns-in_err-chunk-clause-usage c refused =
    let image : c.in_ok-found.found.image ≡ Some c.in_ok-image.image = search rules in
    let symbols : c.in_ok-found.found.symbols ≡ Some c.in_ok-symbols.symbols = search rules in
    let cache : c.cache_of.result ≡ Some c.in_ok-cache.cache = search rules in
    let chunk : c.chunk_of.result ≡ None = search rules in
    no_chunk (map string_bytes c.args.words.now) c.in_ok-found.ensures.fits
    (sym c.in_ok-found.ensures.image ∙ ap (option_map (λ text. text.now)) image)
    (sym c.in_ok-found.ensures.symbols ∙ ap (option_map (λ text. text.now)) symbols)
    (ap (number_or 4096 0 1048576) (sym c.in_ok-found.ensures.cache) ∙ sym c.cache_of.ensures.value ∙ cache)
    (ap (number_or 1048576 4096 16777216) (sym c.in_ok-found.ensures.chunk) ∙ sym c.chunk_of.ensures.value ∙ chunk)

pub returns-clause-value : goal.returns-clause-value
returns-clause-value c =
    let image : c.in_ok-found.found.image ≡ Some c.in_ok-image.image = search rules in
    let symbols : c.in_ok-found.found.symbols ≡ Some c.in_ok-symbols.symbols = search rules in
    let cache : c.cache_of.result ≡ Some c.in_ok-cache.cache = search rules in
    let chunk : c.chunk_of.result ≡ Some c.in_ok-chunk.chunk = search rules in
    known (map string_bytes c.args.words.now) c.in_ok-found.ensures.fits
    (sym c.in_ok-found.ensures.image ∙ ap (option_map (λ text. text.now)) image ∙ ap Some (sym c.in_ok-of.ensures))
    (sym c.in_ok-found.ensures.symbols ∙ ap (option_map (λ text. text.now)) symbols ∙ ap Some (sym c.in_ok-of-2.ensures))
    (sym c.in_ok-found.ensures.dump ∙ sym c.in_ok-optional_path.ensures)
    (ap (number_or 4096 0 1048576) (sym c.in_ok-found.ensures.cache) ∙ sym c.cache_of.ensures.value ∙ cache)
    (ap (number_or 1048576 4096 16777216) (sym c.in_ok-found.ensures.chunk) ∙ sym c.chunk_of.ensures.value ∙ chunk)
