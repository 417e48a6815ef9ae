use Rattle.std.proofs.Common.{◌≡◌, ◌-◌, ◌++◌, ◌∙◌, List, ap, length, replicate, take, arith, ℕ}
use Rattle.std.specs.Prelude.{vec_len}
use Rattle.std.proofs.Math.Seq.{take-append_seam}
use Rattle.std.proofs.lemmas.List.{take_all}
use Rattle.hc_groups.specs.Index.{line_stations}
use Rattle.hc_groups.proofs.LineLists.{stations-few}
use Rattle.hc_groups.proofs.line.line_list.Goals as goal

pub returns : goal.returns
returns c =
    let line = line_stations c.args.groups.now in
    let few = stations-few c.args.groups.now in
    let zeros = replicate (c.args.declared - vec_len c.in_ok-all.all) 0 in
    let all : take c.args.declared c.in_ok-all.all.items ≡ line =
    ap (take c.args.declared) c.in_ok-all.ensures ∙ take_all c.args.declared line (omega (arith, few, c.requires)) in
    record {
      long = omega (arith, c.in_ok-resize.ensures.len, c.resize.new.self.ok.0, c.requires);
      front = ap (take (length line)) c.in_ok-resize.ensures.items ∙ ap (λ (l : List ℕ). take (length line) (l ++ zeros)) all ∙ take-append_seam line zeros;
    }
