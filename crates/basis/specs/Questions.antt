-- How a call refuses: it asks its questions in order, and the first that is met with no gives its number.
use Rattle.std.specs.Prelude.{ℕ, Bool, cond, List, [], ◌∷◌, Ok, Err, Result}

-- a question's answer, with the number of its refusal
abbrev pub Question : Type 0
Question = Bool × ℕ

-- the number of the first question met with no, and 0 if there is none
abbrev pub first_no : List Question → ℕ
first_no [] = 0
first_no (x ∷ xs) = cond x.0 (first_no xs) x.1

-- the number that a call's result bears: 0 if it was granted, else its refusal's
abbrev pub answered : {T E : Type 0} → (E → ℕ) → Result T E → ℕ
answered number (Ok x) = 0
answered number (Err e) = number e
