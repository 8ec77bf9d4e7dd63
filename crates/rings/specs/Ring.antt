-- The ring: which past it holds, and where the next frame goes.
use Rattle.std.specs.Prelude.{ℕ, ◌+◌, ◌-◌, cond, List, ◌++◌, eqb, Float, take, drop}

-- the past, oldest first: from the block start to the end of the used history, then from its front
unfoldable pub straight : List Float → ℕ → ℕ → List Float
straight ring history start = take (history - start) (drop start ring) ++ take start ring

-- the block after this one, and the first after the last
abbrev pub next_block : ℕ → ℕ → ℕ → ℕ
next_block history nf start = cond (eqb (start + nf) history) 0 (start + nf)

-- where the newest block ends: before the next block, or at the end of the used history
abbrev pub newest_end : ℕ → ℕ → ℕ
newest_end history start = cond (eqb start 0) history start
