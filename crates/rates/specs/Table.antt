-- The six rates of docs/SCOPE.md, row by row, and the row of a rate.
use Rattle.std.specs.Prelude.{ℕ, cond, List, [], ◌∷◌, eqb, Option, Some, None}
use Rattle.rates.specs.declared.table.Rate.{Rate}

-- a row, in the order of the columns in docs/SCOPE.md: rate, fs_ind, R, frame at 10 and 7.5 ms, p, l_den, fade
abbrev pub row : ℕ → ℕ → ℕ → ℕ → ℕ → ℕ → ℕ → ℕ → Rate
row hz i r f g p l d = record { hz = hz; fs_ind = i; r = r; nf_10 = f; nf_7p5 = g; p = p; l_den = l; fade = d }

abbrev pub rates : List Rate
rates =
    row 8000 0 1 80 60 24 4 20 ∷
    row 16000 1 2 160 120 12 4 40 ∷
    row 24000 2 3 240 180 8 6 60 ∷
    row 32000 3 4 320 240 6 8 80 ∷
    row 44100 4 6 480 360 4 12 120 ∷
    row 48000 4 6 480 360 4 12 120 ∷ []

-- the first row of that rate
unfoldable pub find : ℕ → List Rate → Option Rate
find hz [] = None
find hz (row ∷ rows) = cond (eqb row.hz hz) (Some row) (find hz rows)

abbrev pub row_of : ℕ → Option Rate
row_of hz = find hz rates
