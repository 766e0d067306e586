-- References: "each reference is a price or is missing, and 0 means missing". Document 01, "Question and answer".
use Rattle.std.specs.Prelude.{ℕ, min, max, Bool, true, false, cond, eqb, ltb, Option, Some, None}
use Rattle.questions.specs.declared.Reference.{Reference}
use Rattle.questions.specs.declared.Reference.TheVariants.{Missing, Price}

-- the reference that a number stands for
abbrev pub reference_of : ℕ → Reference
reference_of number = cond (eqb number 0) Missing (Price number)

-- the number that a reference is written as
abbrev pub number_of : Reference → ℕ
number_of Missing = 0
number_of (Price p) = p

-- what was found, as a reference
abbrev pub as_reference : Option ℕ → Reference
as_reference None = Missing
as_reference (Some p) = Price p

abbrev pub present : Reference → Bool
present Missing = false
present (Price p) = true

-- both are there, and the first is below the second
abbrev pub is_below : Reference → Reference → Bool
is_below Missing b = false
is_below (Price x) Missing = false
is_below (Price x) (Price y) = ltb x y

-- the least and the greatest of two: "A minimum or maximum skips missing references."
abbrev pub least : Reference → Reference → Reference
least Missing b = b
least (Price x) Missing = Price x
least (Price x) (Price y) = Price (min x y)

abbrev pub greatest : Reference → Reference → Reference
greatest Missing b = b
greatest (Price x) Missing = Price x
greatest (Price x) (Price y) = Price (max x y)

-- the price, or another where it is missing
abbrev pub price_or : ℕ → Reference → ℕ
price_or other Missing = other
price_or other (Price p) = p
