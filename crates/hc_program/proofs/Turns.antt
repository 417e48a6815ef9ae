-- One turn of a run: what is written, and what is left.
use Rattle.std.proofs.Common.{◌≡◌, ◌≢◌, ◌≤◌, ℕ, List, [], ◌∷◌, ◌++◌, length, take, drop, refl, sym, ◌∙◌, ap, subst, append_assoc, append-nil, length-append, length-drop, take-append-drop, arith, Bool, true, false, cond, eqb, Some, None}
use Rattle.std.specs.Prelude.{Option}
use Rattle.std.proofs.lemmas.Bool.{eq-eqb, eqb-true}
use Rattle.std.specs.Io.KnownBytes.{Appends}
use Rattle.std.proofs.KnownBytes.{Appends-trans, Appends-nil}
use Rattle.std.proofs.Math.Seq.{take-append_seam}
use Rattle.hc_program.specs.Declaring.{Turn}
use Rattle.hc_program.specs.Runs.{Outcome, Reply, bare_reply, outcome_after_reply, reply_to, run, then_published}
use Rattle.hc_program.specs.Standings.{SessionState}
use Rattle.hc_program.specs.declared.engine.Broken.TheVariants.{Unwritten}
use Rattle.hc_program.specs.declared.engine.RunEnd.{RunEnd}
use Rattle.hc_program.specs.Text.{Breaks, EndsAs, IsCutShort}
use Rattle.hc_program.specs.Turns.{Continues, Ends, GoesOn, AnswersLine, end_after, run_end_of}

-- the first turn's reply, and the rest of the run
pub run_turn : (s : SessionState) (turns : List Turn) (turn : Turn) (after_it : List Turn) → turns ≡ turn ∷ after_it
    → run s turns ≡ outcome_after_reply (reply_to s turn) (run (reply_to s turn).session_state after_it)
unfolding run
run_turn s turns turn after_it is = ap (run s) is

pub run_none : (s : SessionState) → run s [] ≡ record { text = []; status = 0 }
unfolding run
run_none s = refl

-- a reply, where it was published
pub published_reply : (s : SessionState) (turn : Turn) → reply_to s turn ≡ then_published (bare_reply s turn)
unfolding reply_to
published_reply s turn = refl

-- a reply is the front of what follows from it
reply_first : (text tail : List ℕ) (status : ℕ) (b : Bool)
    → (more : List ℕ) × (Outcome.text (cond b (record { text = text ++ tail; status = status }) (record { text = text; status = 2 })) ≡ text ++ more)
reply_first text tail status true = (tail, refl)
reply_first text tail status false = ([], sym (append-nil text))

after_on : (reply : Reply) (rest : Outcome) → reply.goes_on ≡ true → outcome_after_reply reply rest ≡ record { text = reply.text ++ rest.text; status = rest.status }
after_on reply rest on =
    ap (λ b. cond b (record { text = reply.text ++ rest.text; status = rest.status }) (record { text = reply.text; status = 2 })) on

after_end : (reply : Reply) (rest : Outcome) → reply.goes_on ≡ false → outcome_after_reply reply rest ≡ record { text = reply.text; status = 2 }
after_end reply rest off =
    ap (λ b. cond b (record { text = reply.text ++ rest.text; status = rest.status }) (record { text = reply.text; status = 2 })) off

-- before the first turn
pub begins : (old : Option (List ℕ)) (all : Outcome) → Continues old old all all
begins old all = record { text = record { done = []; appended = Appends-nil old; whole = refl }; status = refl }

-- the run goes on after a whole reply
pub continues : (old mid new : Option (List ℕ)) (left all : Outcome) (reply : Reply) (next : SessionState) (of : SessionState → Outcome)
    → Continues old mid left all → left ≡ outcome_after_reply reply (of reply.session_state) → GoesOn mid new next reply → Continues old new (of next) all
continues old mid new left all reply next of c is turn =
    let unchanged : of next ≡ of reply.session_state = ap of turn.left in
    let joined : left ≡ record { text = reply.text ++ (of next).text; status = (of next).status } =
    is ∙ after_on reply (of reply.session_state) turn.on ∙ ap (λ (o : Outcome). record { text = reply.text ++ o.text; status = o.status }) (sym unchanged) in
    record {
      text = record {
        done = c.text.done ++ reply.text;
        appended = Appends-trans old mid new c.text.done reply.text c.text.appended turn.written;
        whole = append_assoc c.text.done reply.text (of next).text ∙ ap (λ (o : Outcome). c.text.done ++ o.text) (sym joined) ∙ c.text.whole;
      };
      status = ap (λ (o : Outcome). o.status) (sym joined) ∙ c.status;
    }

-- what was written, where something is left, is a front of all
front_of : (old new : Option (List ℕ)) (front rest all : List ℕ) → front ++ rest ≡ all → Appends old new front → (n : ℕ) × Appends old new (take n all)
front_of old new front rest all whole appended =
    (length front, subst (Appends old new) (sym (take-append_seam front rest) ∙ ap (take (length front)) whole) appended)

-- and less than all, where something is left
cut_of : (old new : Option (List ℕ)) (front rest all : List ℕ) → front ++ rest ≡ all → 1 ≤ length rest → Appends old new front → IsCutShort old new all
cut_of old new front rest all whole some appended =
    let lengths : length (front ++ rest) ≡ length all = ap (λ (l : List ℕ). length l) whole in (
      length front,
      omega (arith, lengths, length-append front rest, some),
      subst (Appends old new) (sym (take-append_seam front rest) ∙ ap (take (length front)) whole) appended,
    )

-- why a run whose input was read ends with its status
breaks_if : (b : Bool) (old new : Option (List ℕ)) (status : ℕ) (all : Outcome) → eqb status 4 ≡ b → (status ≡ 4 → IsCutShort old new all.text) → Breaks (cond b (Some Unwritten) None) old new status all
breaks_if true old new status all is cut = let four = eqb-true status 4 is in (four, cut four)
breaks_if false old new status all is cut = λ four. let e : true ≡ false = sym (eq-eqb status 4 four) ∙ is in cc

breaks_so : (old new : Option (List ℕ)) (status : ℕ) (all : Outcome) → (status ≡ 4 → IsCutShort old new all.text) → Breaks (cond (eqb status 4) (Some Unwritten) None) old new status all
breaks_so old new status all cut = breaks_if (eqb status 4) old new status all refl cut

-- a run that ends in the middle of a reply, or after one
pub ends : (old mid new : Option (List ℕ)) (left all rest : Outcome) (reply : Reply) (status : ℕ) (starved : Bool)
    → Continues old mid left all → left ≡ outcome_after_reply reply rest → Ends mid new status reply → EndsAs old new (run_end_of status starved) all
ends old mid new left all rest reply status starved c is turn =
    let (more, first) = reply_first reply.text rest.text rest.status reply.goes_on in
    let begun : left.text ≡ reply.text ++ more = ap (λ (o : Outcome). o.text) is ∙ first in
    let joined = λ (n : ℕ).
    append_assoc c.text.done (take n reply.text) (drop n reply.text ++ more)
    ∙ ap (λ l. c.text.done ++ l) (sym (append_assoc (take n reply.text) (drop n reply.text) more) ∙ ap (λ l. l ++ more) (take-append-drop n reply.text) ∙ sym begun)
    ∙ c.text.whole in
    let (n, part) = turn.front in
    record {
      whole = λ not_four.
          let (written, two, off) = turn.whole not_four in
          let last : left ≡ record { text = reply.text; status = 2 } = is ∙ after_end reply rest off in (
            subst (Appends old new) (ap (λ (o : Outcome). c.text.done ++ o.text) (sym last) ∙ c.text.whole) (Appends-trans old mid new c.text.done reply.text c.text.appended written),
            two ∙ ap (λ (o : Outcome). o.status) (sym last) ∙ c.status,
          );
      front = front_of old new (c.text.done ++ take n reply.text) (drop n reply.text ++ more) all.text (joined n)
          (Appends-trans old mid new c.text.done (take n reply.text) c.text.appended part);
      broken = breaks_so old new status all (λ four.
          let (m, less, cut) = turn.cut four in
          cut_of old new (c.text.done ++ take m reply.text) (drop m reply.text ++ more) all.text (joined m)
          (omega (arith, less, length-append (drop m reply.text) more, length-drop m reply.text))
          (Appends-trans old mid new c.text.done (take m reply.text) c.text.appended cut));
    }

-- a text that was written is a front of itself
pub ends_whole : (old new : Option (List ℕ)) (status : ℕ) (starved : Bool) (all : Outcome) → status ≢ 4 → Appends old new all.text → status ≡ all.status → EndsAs old new (run_end_of status starved) all
ends_whole old new status starved all other written same = record {
  whole = λ _. (written, same);
  front = front_of old new all.text [] all.text (append-nil all.text) written;
  broken = breaks_so old new status all (λ four. absurd (other four));
}

-- a run whose last turn was answered
pub done : (old new : Option (List ℕ)) (starved : Bool) (left all : Outcome) → Continues old new left all → left ≡ record { text = []; status = 0 } → EndsAs old new (run_end_of 0 starved) all
done old new starved left all c none =
    ends_whole old new 0 starved all (λ four. cc)
    (subst (Appends old new) (sym (append-nil c.text.done) ∙ ap (λ (o : Outcome). c.text.done ++ o.text) (sym none) ∙ c.text.whole) c.text.appended)
    (ap (λ (o : Outcome). o.status) (sym none) ∙ c.status)

-- a text that was written only in part
pub ends_broken : (old new : Option (List ℕ)) (starved : Bool) (all : Outcome) → IsCutShort old new all.text → EndsAs old new (run_end_of 4 starved) all
ends_broken old new starved all (n, less, part) = record { whole = λ not_four. absurd (not_four refl); front = (n, part); broken = (refl, (n, less, part)) }

-- the same of an end that is reported
pub ended_so : (old new : Option (List ℕ)) (end other : RunEnd) (all : Outcome) → end ≡ other → EndsAs old new other all → EndsAs old new end all
ended_so old new end other all is holds = subst (λ (e : RunEnd). EndsAs old new e all) (sym is) holds

-- a reply was written, or a front of it

pub after_whole : (old new : Option (List ℕ)) (text : List ℕ) (goes_on : Bool) (end : Option ℕ) (next : SessionState) → end ≡ end_after goes_on → Appends old new text
    → AnswersLine old new next end (record { text = text; session_state = next; goes_on = goes_on })
after_whole old new text true end next is all =
    subst (λ (e : Option ℕ). AnswersLine old new next e (record { text = text; session_state = next; goes_on = true })) (sym is) (record { written = all; left = refl; on = refl })
after_whole old new text false end next is all =
    subst (λ (e : Option ℕ). AnswersLine old new next e (record { text = text; session_state = next; goes_on = false })) (sym is)
    (record { whole = λ not_four. (all, refl, refl); front = front_of old new text [] text (append-nil text) all; cut = λ four. cc })

pub after_broken : (old new : Option (List ℕ)) (text : List ℕ) (goes_on : Bool) (next : SessionState) → IsCutShort old new text
    → Ends old new 4 (record { text = text; session_state = next; goes_on = goes_on })
after_broken old new text goes_on next (n, less, part) = record { whole = λ not_four. absurd (not_four refl); front = (n, part); cut = λ four. (n, less, part) }

-- so it is of the reply that was meant
pub meant : (old new : Option (List ℕ)) (text : List ℕ) (goes_on : Bool) (end : Option ℕ) (next : SessionState) (reply : Reply)
    → ((s : SessionState) → AnswersLine old new s end (record { text = text; session_state = s; goes_on = goes_on })) → text ≡ reply.text → goes_on ≡ reply.goes_on → next ≡ reply.session_state → AnswersLine old new next end reply
meant old new text goes_on end next reply takes same on unchanged =
    let is : record { text = text; session_state = next; goes_on = goes_on } ≡ reply =
    ap (λ (t : List ℕ). record { text = t; session_state = next; goes_on = goes_on }) same
    ∙ ap (λ (s : SessionState). record { text = reply.text; session_state = s; goes_on = goes_on }) unchanged
    ∙ ap (λ (b : Bool). record { text = reply.text; session_state = reply.session_state; goes_on = b }) on in
    subst (AnswersLine old new next end) is (takes next)
