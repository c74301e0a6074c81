-- A lawful code's parts.
use Rattle.std.proofs.Common.{◌≡◌, ◌≤◌, true, ◌&&◌, eqb, ltb, leb, length, drop}
use Rattle.std.proofs.lemmas.Bool.{and_parts, eqb-true, leb-true}
use Rattle.std.specs.List.{list_all}
use Rattle.cells.specs.Cells.{code_byte, code_text, lawful_code}
use Rattle.cells.specs.declared.types.Code.{Code}

pub record LawfulParts (c : Code) : Type 0 where
  pub fits : c.len ≤ 12
  pub long : length c.bytes ≡ 12
  pub text : list_all code_byte (code_text c) ≡ true
  pub rest : list_all (λ b. eqb b 0) (drop c.len c.bytes) ≡ true

pub lawful_parts : (c : Code) → lawful_code c ≡ true → LawfulParts c
lawful_parts c h =
    let rest = list_all (λ b. eqb b 0) (drop c.len c.bytes) in
    let text = list_all code_byte (code_text c) in
    let long = eqb (length c.bytes) 12 in
    let fits = leb c.len 12 in
    let p = and_parts (ltb 0 c.len) (fits && (long && (text && rest))) h in
    let q = and_parts fits (long && (text && rest)) p.1 in
    let r = and_parts long (text && rest) q.1 in
    let s = and_parts text rest r.1 in
    record { fits = leb-true c.len 12 q.0; long = eqb-true (length c.bytes) 12 r.0; text = s.0; rest = s.1 }
