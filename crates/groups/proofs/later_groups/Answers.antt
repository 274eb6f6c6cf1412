-- `later_groups` meets its contract. Assumes nothing.
use Rattle.std.proofs.Common.{rules, ◌≡◌, ◌+◌, sym, ◌∙◌, arith}
use Rattle.groups.proofs.Groups.{resumed_first, resumed_end, resumed_last, resumed_more, weight_next, value_next}
use Rattle.groups.proofs.later_groups.Goals as goal

pub loop-i-init : goal.loop-i-init
loop-i-init c =
    let l = c.into_iter-i-iterator.result in
    let z : l.count ≡ 0 = search rules in
    let n : l.iter.n ≡ 4 = search rules in
    let e : l.iter.iter.rest.now ≡ c.args.later.now = search rules in
    record {
      can_next = search rules;
      is_finite = search rules;
      count = search rules;
      weight = rw z;
      value = omega arith;
      whole = rw (z, n, e) (resumed_first c.args.b c.args.later.now);
    }

pub returns-then-group-lt128 : goal.returns-then-group-lt128
returns-then-group-lt128 c =
    let s = c.in-Some.ensures.steps in
    c.last_group.ensures ∙ resumed_last _ _ c.next.new.self.iter.n s.1 c.from-group.ensures s.0.1 s.0.0 c.if-group-lt128.true ∙ c.loop-i.invariant.whole

pub loop-i-preserved : goal.loop-i-preserved
loop-i-preserved c =
    let l = c.loop-i in
    let s = c.in-Some.ensures.steps in
    record {
      can_next = search rules;
      is_finite = search rules;
      count = search rules;
      weight = rw (s.2, l.invariant.weight) (weight_next (l.i-iterator.count + 1));
      value = value_next _ _ c.from-group.result l.invariant.value;
      whole = resumed_more _ _ c.next.new.self.iter.n s.1 c.from-group.ensures s.0.1 s.0.0 s.2 c.if-group-lt128.false ∙ l.invariant.whole;
    }

pub returns : goal.returns
returns c = sym (resumed_end _ _ _ _ _ (λ h. (c.in-None.ensures.steps.0 h).0)) ∙ c.loop-i.invariant.whole
