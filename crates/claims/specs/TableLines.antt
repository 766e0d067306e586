-- Lines that tell the three tables apart: each on the table that its number names, right or wrong by the definitions, as in Worked.
use Rattle.std.specs.Prelude.{◌≡◌, ℕ, Bool, true, not, ◌&&◌, List, [], ◌∷◌}
use Rattle.tables.specs.Named.{unknown_table}
use Rattle.ladder.specs.Named.{ladder_named}
use Rattle.claims.specs.Worked.{Line, low, up, down, every, right_on}

pub record OnTable : Type 0 where
  pub table : ℕ
  pub line : Line

abbrev pub on : ℕ → Line → OnTable
on table line = record { table = table; line = line }

unfoldable pub table_lines : List OnTable
table_lines =
    -- J: Low(20.20), by the spread over 10 to 20
    on 1 (low 20200 19200) ∷ on 2 (low 20200 19190) ∷ on 3 (low 20200 19190) ∷
    -- E: Low(0.51), by the spread over 0.50 to 10
    on 1 (low 510 385) ∷ on 2 (low 510 385) ∷ on 3 (low 510 390) ∷
    -- 24 spreads down from 20.20
    on 1 (down 20200 24 19600) ∷ on 2 (down 20200 24 19860) ∷ on 3 (down 20200 24 19860) ∷
    -- a spread up from 0.50, 10 and 20
    on 1 (up 500 1 510) ∷ on 2 (up 500 1 510) ∷ on 3 (up 500 1 505) ∷
    on 1 (up 10000 1 10020) ∷ on 2 (up 10000 1 10010) ∷ on 3 (up 10000 1 10010) ∷
    on 1 (up 20000 1 20050) ∷ on 2 (up 20000 1 20020) ∷ on 3 (up 20000 1 20020) ∷
    []

-- the number names a table, and on its ladder the line is right
abbrev pub right_named : OnTable → Bool
right_named asked = not (unknown_table asked.table) && right_on (ladder_named asked.table) asked.line

-- The claim, proved as table_lines_right in proofs/Claim.antt: every line is right.
abbrev pub TableLines : Type 0
TableLines = every right_named table_lines ≡ true
