-- `num` is the first part of the first 11.
use native.Mathlib.Omega.{arith}
use borrow.Author.Rules.{rules}
use Rattle.filter.proofs.Reading.{first_of_more}
use Rattle.filter.proofs.kept.KeptFilter.num.Goals as goal

pub returns : goal.returns
returns c = (first_of_more _ 11 _ (omega arith), search rules)
