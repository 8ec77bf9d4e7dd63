-- `pump` goes on until nothing of its input is left: each turn takes at least a byte.
use Rattle.std.proofs.Common.{◌≡◌, ◌-◌, ◌≤◌, length, drop, sym, ap, ◌∙◌, arith, rules, length-drop, take_all}
use Rattle.lines.specs.Listings.{rules_of}
use Rattle.lines.specs.Calls.{after}
use Rattle.lines.proofs.Cuts.{fed_on, fed_all}
use Rattle.listing_stream.proofs.pump.Goals as goal

pub loop-rest-preserved : goal.loop-rest-preserved
loop-rest-preserved g c =
    let rest = c.loop-rest.rest.now in
    let used = c.feed-fed.result.used in
    let whole : length (drop used rest) ≤ length rest - used = omega (arith, length-drop used rest) in
    let L = rules_of g.S.State.rows in
    c.loop-rest.invariant ∙ fed_on L _ _ rest used c.feed-fed.ensures.listing_after ∙
    ap (after L c.feed-fed.result.listing) (sym (take_all (length rest - used) (drop used rest) whole))

pub returns : goal.returns
returns g c =
    let rest = c.loop-rest.rest.now in
    let none : length rest ≡ 0 = search (rules, c.is_empty.ensures, c.loop-rest-test.ensures) in
    fed_all (rules_of g.S.State.rows) _ rest none ∙ sym c.loop-rest.invariant
