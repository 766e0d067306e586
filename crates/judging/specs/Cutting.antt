-- The bounds of a range cut by the nine-fold rule, as the code computes them: fold times p is more than n from n / fold + 1 on, and p is
-- less than fold times n up to fold n - 1; and the range between them. Answers are stated by shown_of, never by these.
use Rattle.std.specs.Prelude.{ℕ, ◌+◌, ◌-◌, ◌*◌, ◌/◌, min, max, cond, ltb, Option, Some, None}
use Rattle.questions.specs.declared.Reference.{Reference}
use Rattle.questions.specs.declared.Reference.TheVariants.{Missing, Price}
use Rattle.judging.specs.declared.Shown.{Shown}
use Rattle.judging.specs.Shown.{fold}

abbrev pub cut_lowest : ℕ → Reference → ℕ
cut_lowest lowest Missing = lowest
cut_lowest lowest (Price n) = max lowest (n / fold + 1)

abbrev pub cut_highest : ℕ → Reference → ℕ
cut_highest highest Missing = highest
cut_highest highest (Price n) = min highest (fold * n - 1)

-- the range from one price to another, or 0 and 0 where one of them was not found, or they do not rise
abbrev pub none_between : Shown
none_between = record { lowest = 0; highest = 0 }

abbrev pub shown_between : Option ℕ → Option ℕ → Shown
shown_between None to = none_between
shown_between (Some a) None = none_between
shown_between (Some a) (Some b) = cond (ltb b a) none_between (record { lowest = a; highest = b })
