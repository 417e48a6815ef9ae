use Rattle.std.proofs.Common.{◌≡◌, ℕ, ◌+◌, ◌∷◌, ◌++◌, ◌∙◌, [], List, ap, append_assoc, drop, sym, arith, append-nil}
use Rattle.std.specs.Prelude.{map}
use Rattle.std.specs.List.{enumerate_from}
use Rattle.std.proofs.lemmas.List.{drop_more, drop_all}
use Rattle.hc_records.specs.declared.records.Declared.{Declared}
use Rattle.hc_groups.specs.declared.aliases.Alias.{Alias}
use Rattle.hc_groups.specs.Index.{alias_of}
use Rattle.hc_groups.proofs.aliases.declared_aliases.Goals as goal

pub overflow_add-group : goal.overflow_add-group
overflow_add-group c = omega (arith, c.loop-declared.invariant.1, c.loop-declared-test.true, c.requires)

pub loop-declared-preserved : goal.loop-declared-preserved
loop-declared-preserved c =
    let l = c.loop-declared in
    let groups = c.args.groups.now in
    let declared = c.declared-item.result in
    let rest = drop (l.declared-index + 1) groups in
    let after_it = map alias_of (enumerate_from (l.group + 1) rest) in
    let cut : drop l.declared-index groups ≡ declared ∷ rest = drop_more groups l.declared-index declared c.loop-declared-test.true ∙ ap (λ (d : Declared). d ∷ rest) (sym c.declared-item.is) in (
      ap (λ (all : List Alias). all ++ after_it) c.in_ok-push.ensures.items
          ∙ append_assoc l.all.items (alias_of (l.group, declared) ∷ []) after_it
          ∙ ap (λ (left : List Declared). l.all.items ++ map alias_of (enumerate_from l.group left)) (sym cut)
          ∙ l.invariant.0,
      ap (λ (n : ℕ). n + 1) l.invariant.1,
    )

pub returns : goal.returns
returns c = sym (append-nil c.loop-declared.all.items) ∙ rw (drop_all c.loop-declared.declared-index c.args.groups.now c.loop-declared-test.false) at c.loop-declared.invariant.0
