-- AGREEMENT. Take any two fit decoder states of the same rate and duration, whatever their histories, block starts, lags, coefficients and
-- runs. Give each of them frames until it has accepted the limit's number of inactive frames in a row, with no start and no loss mark; each
-- may have refused frames of its own in between. If the samples of those inactive frames were the same, then every later frame that is given
-- to both, with equal lent set, pitch record, bits and samples, gives the same answer, settled report and sample bits, refused frames
-- included, for every list of later frames.
use mathlib.Core.Path.{◌≡◌, sym, ◌∙◌, subst}
use mathlib.Core.List.{List, map}
use Rattle.std.proofs.Common.{Result, Ok}
use Rattle.rates.specs.declared.config.Lc3Config.{Lc3Config}
use Rattle.rates.specs.declared.answer.Refusal.{Refusal}
use Rattle.decoder.specs.declared.state.Decoder.{Decoder}
use Rattle.settling_laws.specs.Calls.{Given, Call, frame, after_all, replies, events, heard, FitState, Fit, SettleAlike}
use Rattle.settling_laws.proofs.Held.{held}
use Rattle.settling_laws.proofs.Agreeing.{Agree, same_replies}
use Rattle.settling_laws.proofs.Hearing.{heard_calls}
use Rattle.settling_laws.proofs.Quieting.{agree_quiet}

-- two fit states of the same rate and duration have the same configuration
pub same_config : (a b : Decoder) (fa : Fit a) (fb : Fit b) → a.registers.marks.rate ≡ b.registers.marks.rate → a.registers.marks.duration ≡ b.registers.marks.duration → FitState fa.0 b
same_config a b fa fb r t =
    let p = (held fa.0 a fa.1).fitting.config in
    let q = (held fb.0 b fb.1).fitting.config in
    let e : ◌≡◌ {A = Result Lc3Config Refusal} (Ok fb.0) (Ok fa.0) = sym q ∙ rw (← r, ← t) p in
    let same : fb.0 ≡ fa.0 = cc in
    subst (λ (k : Lc3Config). FitState k b) same fb.1

-- what both settle on leaves states that agree
pub settled_alike : (c : Lc3Config) (a b : Decoder) → FitState c a → FitState c b → (calls-a calls-b : List Call) → SettleAlike a b calls-a calls-b →
    Agree c (after_all a calls-a) (after_all b calls-b)
settled_alike c a b sa sb calls-a calls-b q =
    let ha = heard_calls c a sa calls-a q.left in
    let hb = heard_calls c b sb calls-b q.right in
    rw (ha.state, hb.state, ← q.same) (agree_quiet c a b sa sb (heard (events a calls-a)) ha.long q.many)

pub agreement : (a b : Decoder) → Fit a → Fit b → a.registers.marks.rate ≡ b.registers.marks.rate → a.registers.marks.duration ≡ b.registers.marks.duration →
    (calls-a calls-b : List Call) → SettleAlike a b calls-a calls-b →
    (later : List Given) → replies (after_all a calls-a) (map frame later) ≡ replies (after_all b calls-b) (map frame later)
agreement a b fa fb r t calls-a calls-b q later =
    same_replies fa.0 (after_all a calls-a) (after_all b calls-b)
    (settled_alike fa.0 a b fa.1 (same_config a b fa fb r t) calls-a calls-b q) later
