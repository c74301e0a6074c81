use Rattle.std.proofs.Common.{◌≡◌, ℕ, List, ◌++◌, ◌-◌, length, drop, replicate, sym, ap, ◌∙◌, subst}
use Rattle.std.proofs.lemmas.List.{drop-replicate}
use Rattle.basis.specs.Reading.{Exactly}
use Rattle.basis.proofs.Exact.{exactly_if}
use Rattle.cells.specs.Cells.{code_text}
use Rattle.cells.specs.declared.types.Code.{Code}
use Rattle.spelling.proofs.Codes.{SpellsCode, code_of, code_of_text, code_is}
use Rattle.spelling.proofs.reads.read_code.Goals as goal

abbrev code : List ℕ → ℕ → Code
code bytes n = record { bytes = bytes; len = n }

pub returns : goal.returns
returns c =
    let s = c.args.s.now in
    let bytes : c.copy_from_slice.new.self ++ drop (length s) (replicate 12 0) ≡ s ++ replicate (12 - length s) 0 =
    λ i. c.copy_from_slice.ensures.after i ++ drop-replicate (length s) 12 0 i in
    let is : code (c.copy_from_slice.new.self ++ drop (length s) (replicate 12 0)) (length s) ≡ code_of s = ap (λ bs. code bs (length s)) bytes in
    let text = ap code_text is ∙ code_of_text s in
    let lawful = c.is_lawful.ensures.value in
    record {
      value = subst (λ r. Exactly r (SpellsCode s)) (sym c.then_some.ensures)
          (exactly_if (SpellsCode s) _ c.is_lawful.result (λ e. (sym lawful ∙ e, text), λ p. lawful ∙ p.0) (λ d q. is ∙ sym (code_is s d q)));
    }
