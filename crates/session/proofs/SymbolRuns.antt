-- A run over the bytes that were taken of a symbol file is the one over the file.
use Rattle.std.proofs.Common.{◌≡◌, ℕ, ◌<◌, ◌≤◌, Bool, true, ltb, List, length, Option, Err, refl, sym, ◌∙◌, ap, ⊎_elim, arith, length-take}
use Rattle.std.proofs.lemmas.Bool.{cases_lt}
use Rattle.std.proofs.lemmas.Bool.Decides.{nat_tests}
use Rattle.std.proofs.lemmas.List.{take_all}
use Rattle.layer_base.specs.AddressSpace.{AddressSpace}
use Rattle.isf_reader.specs.Table.{table_of}
use Rattle.isf_reader.specs.declared.refusal.IsfRefusal.TheVariants.{TooLarge}
use Rattle.symbol_texts.specs.Refusal.{symbols_refusal_text}
use Rattle.session.specs.Evidence.{table_in}
use Rattle.session.specs.Outcome.{Outcome}
use Rattle.session.specs.Ran.{RanOver}
use Rattle.session.specs.Run.{symbols_refused, table_run, behind_symbols}
use Rattle.session.specs.Said.{Said}
use Rattle.session.specs.SymbolFile.{symbols_taken}
use Rattle.session.specs.declared.status.Status.{Status}

-- a file that is too large is refused for that, whatever stands in it
too-large : (symbols : List ℕ) → 134217728 < length symbols → table_of symbols ≡ Err (TooLarge (length symbols))
unfolding table_of
too-large symbols large = let larger : ltb 134217728 (length symbols) ≡ true = grind (arith, nat_tests) in rw larger refl

-- and its line does not tell how large it is
pub too-large-text : (a b : ℕ) → symbols_refused (TooLarge a) ≡ symbols_refused (TooLarge b)
unfolding symbols_refusal_text
too-large-text a b = refl

taken-short : (symbols : List ℕ) → length symbols ≤ 134217729 → symbols_taken symbols ≡ symbols
unfolding symbols_taken
taken-short symbols short = take_all 134217729 symbols short

length-taken : (symbols : List ℕ) → 134217729 ≤ length symbols → length (symbols_taken symbols) ≡ 134217729
unfolding symbols_taken
length-taken symbols long = omega (arith, length-take 134217729 symbols)

pub table_run-taken : (has_dump : Bool) (memory : AddressSpace) (symbols script : List ℕ) → table_run has_dump memory (table_of (symbols_taken symbols)) script ≡ table_run has_dump memory (table_of symbols) script
table_run-taken has_dump memory symbols script = ⊎_elim
    (λ long.
    let taken = length-taken symbols (omega (arith, long)) in
    ap (λ t. table_run has_dump memory t script) (too-large (symbols_taken symbols) (omega (arith, taken))) ∙ too-large-text (length (symbols_taken symbols)) (length symbols)
    ∙ ap (λ t. table_run has_dump memory t script) (sym (too-large symbols (omega (arith, long)))))
    (λ short. ap (λ l. table_run has_dump memory (table_of l) script) (taken-short symbols short)) (cases_lt 134217729 (length symbols))

pub table_in-taken : (symbols : List ℕ) → table_in (table_of (symbols_taken symbols)) ≡ table_in (table_of symbols)
table_in-taken symbols = ⊎_elim
    (λ long.
    let taken = length-taken symbols (omega (arith, long)) in
    ap table_in (too-large (symbols_taken symbols) (omega (arith, taken))) ∙ ap table_in (sym (too-large symbols (omega (arith, long)))))
    (λ short. ap (λ l. table_in (table_of l)) (taken-short symbols short)) (cases_lt 134217729 (length symbols))

-- a run whose symbol file was taken before ran as far as without it
pub ran-behind : (symbols : List ℕ) (says : List ℕ → Said) (outcome : Outcome) (script : List ℕ) (left out out' dump dump' : Option (List ℕ)) (end : Status) → RanOver says outcome script left out out' dump dump' end → RanOver says (behind_symbols symbols outcome) script left out out' dump dump' end
ran-behind symbols says outcome script left out out' dump dump' end ran = record {
  given = ran.given;
  consumed = ran.consumed;
  given_front = ran.given_front;
  given_exact = ran.given_exact;
  status_is = ran.status_is;
  text = ran.text;
  dumped = ran.dumped;
}
