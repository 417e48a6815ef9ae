-- The table begins by its rule, and the rule holds after seats are parted, make notes and learn.
use Rattle.std.proofs.Common.{◌≡◌, ℕ, zero, suc, List, [], ◌∷◌, ◌++◌, length, set, sym, refl, ◌∙◌, subst, ⊎_elim, arith, length-set}
use mathlib.Core.Option.{some, some-injective, some-ne-none}
use lib.ListN.{get_elem?}
use Rattle.atomic_table.specs.Table.{State, Splits, Joins, opening}
use Rattle.atomic_table.proofs.Lists.{set_else, at_snoc}
use Rattle.hc_mail.specs.declared.letter.Letter.{Letter}
use Rattle.hc_mail.specs.declared.table.Insight.{Insight}
use Rattle.hc_mail.specs.declared.table.Role.{Role}
use Rattle.hc_mail.specs.declared.table.Role.TheVariants.{Rests, Opens, Enters, Waits}
use Rattle.hc_mail.specs.Contents.{Kind, Room, StartsWith}
use Rattle.hc_mail.specs.Rule.{insight, opener, HomeSlots, IsRoomy, Layout, Plays, IsMail}
use Rattle.hc_mail.proofs.Lists.{others_hold, at_last}
use Rattle.hc_mail.proofs.Roles.{plays_on}

abbrev pub Table : Type 0 → Type 0
Table X = State (Letter X) (Insight X)

-- what the rule says of one seat
abbrev pub Fine : {X : Type 0} → Layout X → HomeSlots X → ℕ → Insight X → Type 0
Fine p slots j i = Plays p slots j i.role i.seen × StartsWith p.all i.seen × StartsWith p.all i.reported

module _ {X : Type 0} (kind : Kind X) (room : Room) where
  abbrev pub Rule : Table X → Type 0
  Rule = IsMail kind room

  -- the rule of a table where only what seats know is new
  pub known_anew : (s : Table X) (r : Rule s) (receiver : ℕ) (views : List (Insight X)) → let p : Layout X = record r.layout { receiver = receiver } in
      ((j : ℕ) (i : Insight X) → get_elem? views j ≡ some i → Fine p s.homes j i) → Rule record s { views = views }
  known_anew s r receiver views fine = record {
    layout = record r.layout { receiver = receiver };
    one_word = r.one_word;
    three_slots = r.three_slots;
    small = r.small;
    apart = r.apart;
    word_is = r.word_is;
    at_middle = r.at_middle;
    as_roomy = r.as_roomy;
    is_newest = r.is_newest;
    each_seat = fine;
  }

  module _ (one middle other : Letter X) where
    abbrev first_layout : Layout X
    first_layout = record { all = []; sender = 0; receiver = 0; own = 0; middle = 1; shown = 2; newer = 0; letter = middle }

    abbrev first_slots : HomeSlots X
    first_slots = some one ∷ some middle ∷ some other ∷ []

    first_seat : (j : ℕ) (i : Insight X) → get_elem? (opener ∷ []) j ≡ some i → Fine first_layout first_slots j i
    first_seat zero i there =
        subst (Fine first_layout first_slots 0) (some-injective opener i there) (((refl, refl), (refl, (λ _. refl), (λ e. absurd (omega arith))), (one, refl), (other, refl), refl, refl), ([], refl), ([], refl))
    first_seat (suc j) i there = absurd (some-ne-none i (sym there))

    -- a letter with the mailbox's room lies in the middle, and any in the slots of the two ends
    pub begins : IsRoomy kind room middle.content → Rule (opening (1 ∷ []) (one ∷ middle ∷ other ∷ []) opener)
    begins roomy = record {
      layout = first_layout;
      one_word = refl;
      three_slots = refl;
      small = (omega arith, omega arith, omega arith, omega arith);
      apart = ((λ e. omega arith), (λ e. omega arith), (λ e. omega arith));
      word_is = refl;
      at_middle = refl;
      as_roomy = roomy;
      is_newest = λ e. absurd (omega arith);
      each_seat = first_seat;
    }

  -- the two ends are parted
  pub parts : (id : ℕ) (i : Insight X) → i.role ≡ Opens → Splits Rule id i (insight Enters i.seen i.reported) (insight Waits i.seen i.reported)
  parts id i opens s r at =
      let p : Layout X = r.layout in let p' : Layout X = record p { receiver = length s.views } in
      let left : Insight X = insight Enters i.seen i.reported in let right : Insight X = insight Waits i.seen i.reported in
      let mine = r.each_seat id i at in let plays : Plays p s.homes id Opens i.seen = subst (λ (z : Role). Plays p s.homes id z i.seen) opens mine.0 in
      known_anew s r (length s.views) (set s.views id left ++ right ∷ [])
      (λ j k there. ⊎_elim
      (λ (inside : get_elem? (set s.views id left) j ≡ some k). others_hold (Fine p' s.homes) s.views id left ((plays.0, plays.2, plays.4), mine.1, mine.2)
      (λ n x other here. let h = r.each_seat n x here in (
        plays_on p p' s.homes s.homes n x.role x.seen (λ e. absurd (other (e ∙ sym plays.0.0))) (λ saw. absurd (other (saw.0 ∙ sym plays.1.0))) h.0,
        h.1,
        h.2,
      )) j k inside)
      (λ (end : (j ≡ length (set s.views id left)) × (right ≡ k)).
      subst (λ (x : ℕ × Insight X). Fine p' s.homes x.0 x.1) (λ t. (sym (end.0 ∙ length-set s.views id left) t, end.1 t)) (((refl, plays.1.1, plays.1.2), plays.3, plays.5), mine.1, mine.2))
      (at_last (set s.views id left) right k j there))

  -- an end makes a note
  pub notes : (id : ℕ) (i : Insight X) → Splits Rule id i i (insight Rests i.seen i.reported)
  notes id i s r at = let p : Layout X = r.layout in let note : Insight X = insight Rests i.seen i.reported in let mine = r.each_seat id i at in
      known_anew s r p.receiver (set s.views id i ++ note ∷ [])
      (λ j k there. ⊎_elim (λ (inside : get_elem? (set s.views id i) j ≡ some k). others_hold (Fine p s.homes) s.views id i mine (λ n x _. r.each_seat n x) j k inside)
      (λ (end : note ≡ k). subst (Fine p s.homes j) end (tt, mine.1, mine.2)) (at_snoc (set s.views id i) note k j there))

  -- an end learns from a note
  pub learns : (id : ℕ) (i : Insight X) (other : ℕ) (note : Insight X) → Joins Rule id i other note (insight i.role i.seen note.seen) (insight Rests [] [])
  learns id i other note s r at apart there =
      let p : Layout X = r.layout in let both : Insight X = insight i.role i.seen note.seen in let spent : Insight X = insight Rests [] [] in let mine = r.each_seat id i at in
      let theirs = r.each_seat other note (sym (set_else s.views id other both apart) ∙ there) in
      known_anew s r p.receiver (set (set s.views id both) other spent)
      (others_hold (Fine p s.homes) (set s.views id both) other spent (tt, (p.all, refl), (p.all, refl))
      (λ j k _ e. others_hold (Fine p s.homes) s.views id both (mine.0, mine.1, theirs.1) (λ n x _. r.each_seat n x) j k e))
