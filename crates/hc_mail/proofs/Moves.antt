-- Each step of the two ends keeps the rule of the table, and gives its end what it says.
use Rattle.std.proofs.Common.{◌≡◌, ◌≢◌, ℕ, ◌+◌, ◌%◌, ◌<◌, List, [], ◌∷◌, ◌++◌, get_or, set, length, sym, refl, ap, ◌∙◌, subst, arith, length-set, get_or-set_same}
use mathlib.Core.Option.{none, some}
use native.Mathlib.Decide.{dec_le}
use mathlib.Core.Logic.{dite}
use lib.ListN.{get_elem?}
use lib.Seq.{set-get_or}
use Rattle.atomic_table.specs.Table.{step, keeps, takes, gives, chain, rest, Allows}
use Rattle.atomic_table.proofs.Lists.{set_here, set_else, set_again}
use Rattle.hc_mail.specs.declared.letter.Letter.{Letter}
use Rattle.hc_mail.specs.declared.table.Insight.{Insight}
use Rattle.hc_mail.specs.declared.table.Role.{Role}
use Rattle.hc_mail.specs.declared.table.Role.TheVariants.{Enters, Sends, Waits, Looks, Takes}
use Rattle.hc_mail.specs.Contents.{Kind, Room, StartsWith, counted, newest_letter}
use Rattle.hc_mail.specs.Ends.{Place, seen, reported, posed}
use Rattle.hc_mail.specs.Rule.{insight, in_hand, HomeSlots, IsRoomy, Layout, Seated, entered, waited, letter_sent, found, letter_taken, confirmed}
use Rattle.hc_mail.proofs.Lists.{others_hold, last_of_one_more, one_more_starts, same_starts, starts_no_longer, one_more_is_longer}
use Rattle.hc_mail.proofs.Roles.{plays_on}
use Rattle.hc_mail.proofs.Seats.{Table, Rule, Fine, known_anew}

is_seated : {X : Type 0} (me : Seated X) (role : Role) (hand : List (ℕ × Letter X)) → me.0.role ≡ role → me.1 ≡ hand → me ≡ (insight role me.0.seen me.0.reported, hand)
is_seated me role hand a b = λ t. (insight (a t) me.0.seen me.0.reported, b t)

module _ {X : Type 0} (kind : Kind X) (room : Room) where
  -- a load leaves the word
  with_words : (s : Table X) (homes : HomeSlots X) (views : List (Insight X)) → Rule kind room record { words = s.words; homes = homes; views = views }
      → Rule kind room record { words = set s.words 0 (get_or s.words 0 0); homes = homes; views = views }
  with_words s homes views r = subst (λ (ws : List ℕ). Rule kind room record { words = ws; homes = homes; views = views }) (sym (set-get_or s.words 0 0)) r

  -- the table after an end took its own slot
  slot_taken : (s : Table X) (r : Rule kind room s) (slot id : ℕ) (new : Insight X) → r.layout.middle ≢ slot
      → ((j : ℕ) (i : Insight X) → get_elem? (set s.views id new) j ≡ some i → Fine r.layout (set s.homes slot none) j i)
      → Rule kind room record { words = s.words; homes = set s.homes slot none; views = set s.views id new }
  slot_taken s r slot id new other fine = record {
    layout = r.layout;
    one_word = r.one_word;
    three_slots = length-set s.homes slot none ∙ r.three_slots;
    small = r.small;
    apart = r.apart;
    word_is = r.word_is;
    at_middle = set_else s.homes slot r.layout.middle none other ∙ r.at_middle;
    as_roomy = r.as_roomy;
    is_newest = r.is_newest;
    each_seat = fine;
  }

  enters_here : (slots id : ℕ) (contents named : List X) → let me : Seated X = (insight Enters contents named, []) in
      Allows (Rule kind room) slots id me 0 (λ n. n) (entered (step slots 0 0 0 none) me)
  enters_here slots id contents named s r _ at _ =
      let p : Layout X = r.layout in let mine = r.each_seat id (insight Enters contents named) at in let plays = mine.0 in let new : Insight X = insight (Sends 0) contents named in
      let homes' : HomeSlots X = set s.homes 0 none in let own = plays.2 in let apart = r.apart in let apart₀ = apart.0 in let apart₁ = apart.1 in (
        new,
        takes 0 plays.1.0,
        plays.1.1,
        with_words s homes' (set s.views id new) (slot_taken s r 0 id new (λ e. apart₀ (own ∙ sym e))
            (others_hold (Fine p homes') s.views id new ((plays.0, sym own), mine.1, mine.2)
            (λ j i other there. let h = r.each_seat j i there in (
              plays_on p p s.homes homes' j i.role i.seen (λ e. absurd (other (e ∙ sym plays.0.0)))
                  (λ saw. (saw, (λ z. z), refl, set_else s.homes 0 p.shown none (λ e. apart₁ (own ∙ sym e)))) h.0,
              h.1,
              h.2,
            )))),
        (plays.1.0, refl),
      )

  waits_here : (slots id : ℕ) (contents named : List X) → let me : Seated X = (insight Waits contents named, []) in
      Allows (Rule kind room) slots id me 0 (λ n. n) (waited (step slots 0 0 0 none) me)
  waits_here slots id contents named s r _ at _ =
      let p : Layout X = r.layout in let mine = r.each_seat id (insight Waits contents named) at in let plays = mine.0 in let new : Insight X = insight (Looks 2) contents named in
      let homes' : HomeSlots X = set s.homes 2 none in let shown = plays.2 in let apart = r.apart in let apart₁ = apart.1 in let apart₂ = apart.2 in (
        new,
        takes 2 plays.1.0,
        plays.1.1,
        with_words s homes' (set s.views id new) (slot_taken s r 2 id new (λ e. apart₂ (e ∙ sym shown))
            (others_hold (Fine p homes') s.views id new ((plays.0, sym shown), mine.1, mine.2)
            (λ j i other there. let h = r.each_seat j i there in (
              plays_on p p s.homes homes' j i.role i.seen (λ _. (refl, refl, refl, set_else s.homes 2 p.own none (λ e. apart₁ (e ∙ sym shown))))
                  (λ saw. absurd (other (saw.0 ∙ sym plays.0.0))) h.0,
              h.1,
              h.2,
            )))),
        (plays.1.0, refl),
      )

  sends_here : (slots id slot : ℕ) (contents named : List X) (letter : Letter X) → IsRoomy kind room letter.content → letter.number ≡ counted (length (contents ++ letter.content ∷ [])) → let me : Seated X = (insight (Sends slot) contents named, (slot, letter) ∷ []) in
      Allows (Rule kind room) slots id me 0 (λ _. slot + 4) (letter_sent kind (step slots 0 (slot + 4) 0 none) me)
  sends_here slots id slot contents named letter roomy numbered s r _ at _ =
      let p : Layout X = r.layout in let mine = r.each_seat id (insight (Sends slot) contents named) at in let plays = mine.0 in let own = plays.1 in
      let apart = r.apart in let apart₀ = apart.0 in let apart₁ = apart.1 in let apart₂ = apart.2 in
      let small = r.small in let three = r.three_slots in let one = r.one_word in let word = r.word_is in let small₀ = small.0 in let small₁ = small.1 in let small₃ = small.3 in
      let n : ℕ = get_or s.words 0 0 in let m : ℕ = n % 4 in let middle : m ≡ p.middle = omega arith in
      let number : letter.number ≡ counted (length (p.all ++ letter.content ∷ [])) = numbered ∙ ap (λ (l : List X). counted (length (l ++ letter.content ∷ []))) plays.0.1 in
      let p' : Layout X = record p { all = p.all ++ letter.content ∷ []; own = m; middle = slot; newer = 1; letter = letter } in
      let given : HomeSlots X = set s.homes slot (some letter) in let homes' : HomeSlots X = set given m none in let new : Insight X = insight (Sends m) (contents ++ letter.content ∷ []) named in (
        new,
        chain gives (takes m p.letter),
        (tt, ap (get_elem? given) middle ∙ (set_else s.homes slot p.middle (some letter) (λ e. apart₀ (sym (e ∙ own))) ∙ r.at_middle)),
        record {
          layout = p';
          one_word = length-set s.words 0 (slot + 4) ∙ one;
          three_slots = length-set given m none ∙ (length-set s.homes slot (some letter) ∙ three);
          small = (omega arith, omega arith, small.2, omega arith);
          apart = ((λ e. apart₀ (sym own ∙ (sym e ∙ middle))), (λ e. apart₂ (sym middle ∙ e)), (λ e. apart₁ (sym own ∙ e)));
          word_is = get_or-set_same s.words 0 (slot + 4) 0 (omega arith);
          at_middle = set_else given m slot none (λ e. apart₀ (sym own ∙ (e ∙ middle))) ∙ set_here s.homes slot (some letter) (omega arith);
          as_roomy = roomy;
          is_newest = λ _. λ t. record { number = number t; content = sym (last_of_one_more (kind.blank room) p.all letter.content) t };
          each_seat = others_hold (Fine p' homes') s.views id new
              (((plays.0.0, ap (λ (l : List X). l ++ letter.content ∷ []) plays.0.1), refl), same_starts _ _ (ap (λ (l : List X). l ++ letter.content ∷ []) plays.0.1), one_more_starts p.all named letter.content mine.2)
              (λ j i other there. let h = r.each_seat j i there in (
                plays_on p p' s.homes homes' j i.role i.seen (λ e. absurd (other (e ∙ sym plays.0.0)))
                    (λ saw. (
                      (saw.0, (λ z. absurd (omega arith)), (λ _. one_more_is_longer p.all i.seen letter.content (starts_no_longer p.all i.seen h.1))),
                      (λ _. refl),
                      refl,
                      set_else given m p.shown none (λ e. apart₂ (sym (e ∙ middle))) ∙ set_else s.homes slot p.shown (some letter) (λ e. apart₁ (sym (e ∙ own))),
                    )) h.0,
                one_more_starts p.all i.seen letter.content h.1,
                one_more_starts p.all i.reported letter.content h.2,
              ));
        },
        (p.letter, r.as_roomy ∙ sym roomy, refl),
      )

  finds_here : (slots id slot : ℕ) (contents named : List X) (idle : Letter X) → let me : Seated X = (insight (Looks slot) contents named, (slot, idle) ∷ []) in
      Allows (Rule kind room) slots id me 0 (λ n. n) (found (step slots 0 0 0 none) me)
  finds_here slots id slot contents named idle s r _ at _ =
      let p : Layout X = r.layout in let old : Insight X = insight (Looks slot) contents named in let mine = r.each_seat id old at in let plays = mine.0 in let word = r.word_is in
      let small = r.small in let small₁ = small.1 in let small₃ = small.3 in let n : ℕ = get_or s.words 0 0 in dite (dec_le 4 n)
      (λ newer. let new : Insight X = insight (Takes slot) contents named in (
        new,
        keeps,
        tt,
        with_words s s.homes (set s.views id new) (known_anew kind room s r p.receiver (set s.views id new)
            (others_hold (Fine p s.homes) s.views id new ((plays.0, plays.1, omega arith), mine.1, mine.2) (λ j i _. r.each_seat j i))),
        ((λ less. absurd (omega arith)), λ _. refl),
      ))
      (λ older. let all : contents ≡ p.all = plays.0.1 (omega arith) in (
        old,
        keeps,
        tt,
        with_words s s.homes (set s.views id old) (subst (λ (views : List (Insight X)). Rule kind room record { words = s.words; homes = s.homes; views = views }) (sym (set_again s.views id old at)) r),
        ((λ _. (refl, subst (λ (l : List X). StartsWith l named) (sym all) mine.2)), λ more. absurd (older more)),
      ))

  confirms_here : (slots id slot : ℕ) (contents named : List X) (hand : List (ℕ × Letter X)) → let me : Seated X = (insight (Sends slot) contents named, hand) in
      Allows (Rule kind room) slots id me 0 (λ n. n) (confirmed (step slots 0 0 0 none) me)
  confirms_here slots id slot contents named hand s r _ at _ = let old : Insight X = insight (Sends slot) contents named in let mine = r.each_seat id old at in let plays = mine.0 in (
    old,
    keeps,
    tt,
    with_words s s.homes (set s.views id old) (subst (λ (views : List (Insight X)). Rule kind room record { words = s.words; homes = s.homes; views = views }) (sym (set_again s.views id old at)) r),
    (refl, subst (λ (l : List X). StartsWith l named) (sym plays.0.1) mine.2),
  )

  takes_here : (slots id slot : ℕ) (contents named : List X) (letter : Letter X) → IsRoomy kind room letter.content → let me : Seated X = (insight (Takes slot) contents named, (slot, letter) ∷ []) in
      Allows (Rule kind room) slots id me 0 (λ _. slot) (letter_taken kind (step slots 0 slot 0 none) me)
  takes_here slots id slot contents named letter roomy s r _ at _ =
      let p : Layout X = r.layout in let mine = r.each_seat id (insight (Takes slot) contents named) at in let plays = mine.0 in let shown = plays.1 in let newer = plays.2 in
      let apart = r.apart in let apart₀ = apart.0 in let apart₁ = apart.1 in let apart₂ = apart.2 in
      let small = r.small in let three = r.three_slots in let one = r.one_word in let word = r.word_is in let small₁ = small.1 in let small₂ = small.2 in
      let n : ℕ = get_or s.words 0 0 in let m : ℕ = n % 4 in let middle : m ≡ p.middle = omega arith in
      let p' : Layout X = record p { middle = slot; shown = m; newer = 0; letter = letter } in
      let given : HomeSlots X = set s.homes slot (some letter) in let homes' : HomeSlots X = set given m none in let new : Insight X = insight (Looks m) p.all named in (
        new,
        chain gives (takes m p.letter),
        (tt, ap (get_elem? given) middle ∙ (set_else s.homes slot p.middle (some letter) (λ e. apart₂ (e ∙ shown)) ∙ r.at_middle)),
        record {
          layout = p';
          one_word = length-set s.words 0 slot ∙ one;
          three_slots = length-set given m none ∙ (length-set s.homes slot (some letter) ∙ three);
          small = (small.0, omega arith, omega arith, omega arith);
          apart = ((λ e. apart₁ (e ∙ shown)), (λ e. apart₀ (e ∙ middle)), (λ e. apart₂ (sym middle ∙ (sym e ∙ shown))));
          word_is = get_or-set_same s.words 0 slot 0 (omega arith) ∙ omega arith;
          at_middle = set_else given m slot none (λ e. apart₂ (sym middle ∙ (sym e ∙ shown))) ∙ set_here s.homes slot (some letter) (omega arith);
          as_roomy = roomy;
          is_newest = λ z. absurd (omega arith);
          each_seat = others_hold (Fine p' homes') s.views id new (((plays.0.0, (λ _. refl), (λ e. absurd (omega arith))), refl), same_starts p.all p.all refl, mine.2)
              (λ j i other there. let h = r.each_seat j i there in (
                plays_on p p' s.homes homes' j i.role i.seen
                    (λ _. (refl, refl, refl, set_else given m p.own none (λ e. apart₀ (e ∙ middle)) ∙ set_else s.homes slot p.own (some letter) (λ e. apart₁ (e ∙ shown))))
                    (λ saw. absurd (other (saw.0 ∙ sym plays.0.0))) h.0,
                h.1,
                h.2,
              ));
        },
        (room, p.all, p.letter, mine.1, mine.2, plays.0.2 newer, r.is_newest newer, r.as_roomy ∙ sym roomy, refl),
      )

  -- the same of a seat that is known to be as there
  pub enters : (slots id : ℕ) (me : Seated X) → me.0.role ≡ Enters → me.1 ≡ [] → Allows (Rule kind room) slots id me 0 (λ n. n) (entered (step slots 0 0 0 none) me)
  enters slots id me a b = subst (λ (m : Seated X). Allows (Rule kind room) slots id m 0 (λ n. n) (entered (step slots 0 0 0 none) m)) (sym (is_seated me Enters [] a b)) (enters_here slots id me.0.seen me.0.reported)

  pub waits : (slots id : ℕ) (me : Seated X) → me.0.role ≡ Waits → me.1 ≡ [] → Allows (Rule kind room) slots id me 0 (λ n. n) (waited (step slots 0 0 0 none) me)
  waits slots id me a b = subst (λ (m : Seated X). Allows (Rule kind room) slots id m 0 (λ n. n) (waited (step slots 0 0 0 none) m)) (sym (is_seated me Waits [] a b)) (waits_here slots id me.0.seen me.0.reported)

  pub sends : (slots id : ℕ) (me : Seated X) (slot : ℕ) (letter : Letter X) → me.0.role ≡ Sends slot → me.1 ≡ (slot, letter) ∷ [] → IsRoomy kind room letter.content → letter.number ≡ counted (length (me.0.seen ++ letter.content ∷ []))
      → Allows (Rule kind room) slots id me 0 (λ _. slot + 4) (letter_sent kind (step slots 0 (slot + 4) 0 none) me)
  sends slots id me slot letter a b roomy numbered = subst (λ (m : Seated X). Allows (Rule kind room) slots id m 0 (λ _. slot + 4) (letter_sent kind (step slots 0 (slot + 4) 0 none) m))
      (sym (is_seated me (Sends slot) ((slot, letter) ∷ []) a b)) (sends_here slots id slot me.0.seen me.0.reported letter roomy numbered)

  pub finds : (slots id : ℕ) (me : Seated X) (slot : ℕ) (idle : Letter X) → me.0.role ≡ Looks slot → me.1 ≡ (slot, idle) ∷ [] → Allows (Rule kind room) slots id me 0 (λ n. n) (found (step slots 0 0 0 none) me)
  finds slots id me slot idle a b = subst (λ (m : Seated X). Allows (Rule kind room) slots id m 0 (λ n. n) (found (step slots 0 0 0 none) m)) (sym (is_seated me (Looks slot) ((slot, idle) ∷ []) a b))
      (finds_here slots id slot me.0.seen me.0.reported idle)

  pub confirms : (slots id : ℕ) (me : Seated X) (slot : ℕ) → me.0.role ≡ Sends slot → Allows (Rule kind room) slots id me 0 (λ n. n) (confirmed (step slots 0 0 0 none) me)
  confirms slots id me slot a = subst (λ (m : Seated X). Allows (Rule kind room) slots id m 0 (λ n. n) (confirmed (step slots 0 0 0 none) m)) (sym (is_seated me (Sends slot) me.1 a refl))
      (confirms_here slots id slot me.0.seen me.0.reported me.1)

  pub takes_newer : (slots id : ℕ) (me : Seated X) (slot : ℕ) (letter : Letter X) → me.0.role ≡ Takes slot → me.1 ≡ (slot, letter) ∷ [] → IsRoomy kind room letter.content
      → Allows (Rule kind room) slots id me 0 (λ _. slot) (letter_taken kind (step slots 0 slot 0 none) me)
  takes_newer slots id me slot letter a b roomy = subst (λ (m : Seated X). Allows (Rule kind room) slots id m 0 (λ _. slot) (letter_taken kind (step slots 0 slot 0 none) m))
      (sym (is_seated me (Takes slot) ((slot, letter) ∷ []) a b)) (takes_here slots id slot me.0.seen me.0.reported letter roomy)

module _ {X : Type 0} (kind : Kind X) where
  pub is_posed : (place : Place X) (role : Role) (slot : ℕ) (letter : Letter X) → place.me.0.role ≡ role → place.me.1 ≡ (slot, letter) ∷ [] → place ≡ posed kind place role slot
  is_posed place role slot letter a b =
      let hand : place.me.1 ≡ (slot, in_hand kind place.me.1) ∷ [] = b ∙ ap (λ (it : Letter X). (slot, it) ∷ []) (sym (ap (in_hand kind) b)) in
      λ t. record place { me = (insight (a t) (seen place) (reported place), hand t) }

  -- it has one slot in hand, and what lies there
  pub has_slot : (place : Place X) (role : Role) (slot : ℕ) → place ≡ posed kind place role slot → place.me.1 ≡ (slot, in_hand kind place.me.1) ∷ rest place.me.1
  has_slot place role slot was = ap (λ (it : Place X). it.me.1) was ∙ ap (λ (it : Place X). (slot, in_hand kind place.me.1) ∷ rest it.me.1) (sym was)
