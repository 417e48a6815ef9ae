-- Lists of a task that differ at some keys alone, and the hulls of these.
use Rattle.std.proofs.Common.{arith}
use Rattle.std.specs.Prelude.{◌||◌}
use Rattle.std.proofs.Common.{◌≡◌, ℕ, Bool, false, List, [], ◌∷◌, ◌++◌, refl, sym, subst, ◌∙◌}
use Rattle.std.proofs.lemmas.Bool.{cond-false, or_parts}
use Rattle.hc_records.specs.declared.keys.Key.{Key}
use Rattle.hc_records.specs.declared.keys.TheConstants.Key.{END}
use Rattle.hc_records.specs.Keys.{same_key}
use Rattle.hc_records.specs.TaskList.{Keyed}
use Rattle.hc_records.specs.Boundaries.{boundaries, width_in}
use Rattle.hc_records.specs.SpanLaws.{IsTaskList}
use Rattle.hc_bitsum.specs.Tree.{HoldsTaskList, with_width}
use Rattle.hc_bitsum.proofs.lemmas.Widths.{width-set}
use Rattle.hc_cuts.specs.declared.hulls.Hulls.{Hulls}
use Rattle.hc_cuts.specs.Hulls.{AreHulls, TakeIn, no_hulls}
use Rattle.hc_cuts.specs.Repair.{AreOfBefore, DifferInside}
use Rattle.hc_cuts.specs.Starts.{TaskCuts, empty_task_cuts}
use Rattle.hc_cuts.proofs.lemmas.HullKeys.{hulls-none}
use Rattle.hc_cuts.proofs.lemmas.Repairs.{differ-inside}

-- a test that the keys pass where the lists differ
pub record Inside (before present : List Keyed) (hulls : Hulls) : Type 0 where
  pub test : Key → Bool
  pub are : AreHulls test hulls
  pub same : (key : Key) → test key ≡ false → width_in before key ≡ width_in present key

pub inside-begins : (list : List Keyed) (hulls : Hulls) → hulls ≡ no_hulls → Inside list list hulls
inside-begins list hulls none = record {
  test = λ key. false;
  are = rw none (hulls-none (λ key. false) (λ key. refl));
  same = λ key test. refl;
}

inside-more : (before present : List Keyed) (hulls wider : Hulls) (key : Key) (bits : ℕ) → IsTaskList present → TakeIn hulls wider (same_key key) → Inside before present hulls
    → Inside before (with_width key bits present) wider
inside-more before present hulls wider key bits is taken inside = record {
  test = λ other. inside.test other || same_key key other;
  are = taken inside.test inside.are;
  same = λ other none.
      let parts = or_parts (inside.test other) (same_key key other) none in
      inside.same other parts.0 ∙ sym (width-set key other bits present is ∙ cond-false (same_key key other) bits (width_in present other) parts.1);
}

pub inside-differs : (before present : List Keyed) (hulls : Hulls) → Inside before present hulls → DifferInside hulls before present
inside-differs before present hulls inside = differ-inside inside.test hulls before present inside.are inside.same

-- a task without areas holds a task's list, and is cut

-- a task of so many slaves whose boundaries are its areas'
pub record IsCutTask (slaves : ℕ) (unchanged : TaskCuts) : Type 0 where
  pub many : unchanged.tree.slaves ≡ slaves
  pub holds : HoldsTaskList unchanged.tree
  pub cut : unchanged.starts ++ END ∷ [] ≡ boundaries unchanged.tree.list

pub begins : (slaves : ℕ) (unchanged : TaskCuts) → unchanged ≡ empty_task_cuts slaves → IsCutTask slaves unchanged
begins slaves unchanged is = grind arith

-- its boundaries are those of before once widths are set
pub were : (old new : TaskCuts) (hulls : Hulls) → IsTaskList old.tree.list → old.starts ++ END ∷ [] ≡ boundaries old.tree.list → new.starts ≡ old.starts
    → DifferInside hulls old.tree.list new.tree.list → AreOfBefore new.starts hulls new.tree.list
were old new hulls list cut starts inside = grind arith

-- widths of a task set so far, with the hulls of their keys
abbrev pub IsSet : ℕ → TaskCuts → TaskCuts → Hulls → Type 0
IsSet slaves first unchanged hulls = record {
  slaves : unchanged.tree.slaves ≡ slaves;
  holds : HoldsTaskList unchanged.tree;
  starts : unchanged.starts ≡ first.starts;
  inside : Inside first.tree.list unchanged.tree.list hulls;
}

pub set-same : (slaves : ℕ) (first now unchanged : TaskCuts) (held hulls : Hulls) → unchanged ≡ now → hulls ≡ held → IsSet slaves first now held → IsSet slaves first unchanged hulls
set-same slaves first now unchanged held hulls is are so_far =
    subst (λ (k : TaskCuts). IsSet slaves first k hulls) (sym is) (subst (λ (h : Hulls). IsSet slaves first now h) (sym are) so_far)

pub set-more : (slaves : ℕ) (first now unchanged : TaskCuts) (hulls held : Hulls) (key : Key) (bits : ℕ) → IsSet slaves first now hulls → unchanged.tree ≡ record now.tree { list = with_width key bits now.tree.list }
    → unchanged.starts ≡ now.starts → HoldsTaskList unchanged.tree → TakeIn hulls held (same_key key) → IsSet slaves first unchanged held
set-more slaves first now unchanged hulls held key bits so_far tree starts holds taken =
    grind (arith, inside-more)
