-- An exchange over the machines of the line alone.
use Rattle.std.proofs.Common.{◌≡◌, ◌+◌, ◌^◌, ◌≤◌, ◌∙◌, ℕ, List, [], ◌∷◌, sym, ap, refl, subst}
use Rattle.std.specs.Prelude.{All}
use Rattle.std.proofs.lemmas.List.Elements.{All-nil}
use Rattle.hc_records.specs.Line.{State, line}
use Rattle.hc_exchange.specs.PairLaws.{IsConfigurable}
use Rattle.hc_exchange.specs.Carrying.{AreCarryingTask, IsBitOfTask}
use Rattle.hc_exchange.specs.Exchanged.{IsExchanged, IsExchangedOnWire}
use Rattle.hc_exchange.specs.Sent.{IsSentOver}
use Rattle.hc_exchange.specs.Wire.{InLine, Outside, PassesAsked, WireCarriesTask, WireMachine, bare_wire, line_machines, outside_machines, wire_machines}
use Rattle.hc_exchange.proofs.Meaning.{exchanged}
use Rattle.hc_exchange.proofs.lemmas.Wires.{bare-line, bare-outside, bare-wire}

-- an exchange over such machines, and what is known of it
pub record GivenAlone (state : State) (task serial : ℕ) (image : List ℕ) (machines frames machines' : List (List ℕ)) : Type 0 where
  pub can : IsConfigurable state
  pub few : serial + 16 ≤ 2 ^ 40
  pub sent : IsSentOver (line state) task serial image machines frames machines'
  pub carrying : AreCarryingTask (line state) task machines

bare-carries : (state : State) (task : ℕ) (machines : List (List ℕ)) → AreCarryingTask (line state) task machines → WireCarriesTask (line state) task (bare_wire machines)
bare-carries state task machines are = record {
  carrying = subst (AreCarryingTask (line state) task) (sym (bare-line machines)) are;
  passing = subst (All (PassesAsked (IsBitOfTask (line state) task))) (sym (bare-outside machines)) (All-nil (PassesAsked (IsBitOfTask (line state) task)));
}

-- a wire without machines outside the line is the line's
only-line : (wire : List WireMachine) → outside_machines wire ≡ [] → line_machines wire ≡ wire_machines wire
only-line [] none = refl
only-line (InLine memory ∷ wire) none = ap (λ (ms : List (List ℕ)). memory ∷ ms) (only-line wire none)
only-line (Outside memory ∷ wire) none = cc

alone : (state : State) (task serial : ℕ) (image : List ℕ) (machines frames machines' : List (List ℕ)) → GivenAlone state task serial image machines frames machines'
    → IsExchangedOnWire (line state) task serial image (bare_wire machines) frames machines'
alone state task serial image machines frames machines' g =
    exchanged state task serial image (bare_wire machines) frames machines'
    (record {
      can = g.can;
      few = g.few;
      sent = subst (λ (ms : List (List ℕ)). IsSentOver (line state) task serial image ms frames machines') (sym (bare-wire machines)) g.sent;
      carries = bare-carries state task machines g.carrying;
    })

left-is : (state : State) (task serial : ℕ) (image : List ℕ) (machines frames machines' : List (List ℕ)) → (on : IsExchangedOnWire (line state) task serial image (bare_wire machines) frames machines')
    → line_machines on.wire' ≡ machines'
left-is state task serial image machines frames machines' on = only-line on.wire' (on.outside ∙ bare-outside machines) ∙ sym on.machines_are

pub exchanged-alone : (state : State) (task serial : ℕ) (image : List ℕ) (machines frames machines' : List (List ℕ)) → GivenAlone state task serial image machines frames machines'
    → IsExchanged (line state) task serial image machines frames machines'
exchanged-alone state task serial image machines frames machines' g =
    let on = alone state task serial image machines frames machines' g in
    subst (λ (ms : List (List ℕ)). IsExchanged (line state) task serial image ms frames machines') (bare-line machines)
    (subst (λ (ms : List (List ℕ)). IsExchanged (line state) task serial image (line_machines (bare_wire machines)) frames ms) (left-is state task serial image machines frames machines' on) on.exchanged)

pub stays-alone : (state : State) (task serial : ℕ) (image : List ℕ) (machines frames machines' : List (List ℕ)) → GivenAlone state task serial image machines frames machines'
    → AreCarryingTask (line state) task machines'
stays-alone state task serial image machines frames machines' g =
    let on = alone state task serial image machines frames machines' g in
    subst (AreCarryingTask (line state) task) (left-is state task serial image machines frames machines' on) on.carries.carrying
