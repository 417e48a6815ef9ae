-- The ownership of a `Result`, from that of its one field.
use Rattle.std.proofs.Common.{List, [], ◌∷◌, refl}
use Rattle.std.specs.declared.result.Result.TheVariants.{Ok, Err}
use Rattle.std.specs.contracts.result.Result as result
use seplogic.Ra.Ura.{Ura}
use base.Logic.{ent, emp, sep}
use contract.Monad.{fact, fact_i}
use denote.Enum.Declared.{shape}
use denote.Enum.Enum.{form_of, in_a_row}
use denote.Enum.Row.{tagged_with}
use denote.RattleType.{RattleType, Valss, owns}
use denote.Steps.{nothing}
use mir.Val.{Val, of_list}
use types.Kit.{‵, raw, ◌$◌, ◌∵◌, !, qed, move, use0, join, fjoin, fpack, feq_i, done}
use types.Logic.{Logic, sem}
use types.Match.{live}

-- three facts, which need nothing
pub says_three : {M : Type 1} {𝓤 : Ura M} (𝓛 : Logic 𝓤) {A B C : Type 0} → A → B → C → ent 𝓤 (emp 𝓤) (sep 𝓤 (fact 𝓤 A) (sep 𝓤 (fact 𝓤 B) (fact 𝓤 C)))
says_three {𝓤 = 𝓤} 𝓛 {A} {B} {C} a b c =
    qed 𝓛 [] ∵ use0 𝓛 (raw (fact 𝓤 C)) (fact_i 𝓤 C (emp 𝓤) c) $ use0 𝓛 (raw (fact 𝓤 B)) (fact_i 𝓤 B (emp 𝓤) b) $ join ! $
    use0 𝓛 (raw (fact 𝓤 A)) (fact_i 𝓤 A (emp 𝓤) a) $ join ! $ done !

module _ {M : Type 1} {𝓤 : Ura M} (𝓛 : Logic 𝓤) (X Y : RattleType) where
  pub makes_ok : (x : X.Denot) (v : Val) → ent 𝓤 (sem 𝓛 (X.own_val x (v ∷ []))) (sem 𝓛 ((result.the_row X Y).own_val (Ok x) (live 0 (of_list (v ∷ [])) ∷ [])))
  makes_ok x v =
      let whole : List Val = live 0 (of_list (v ∷ [])) ∷ [] in
      qed 𝓛 (‵ (X.own_val x (v ∷ [])) ∷ []) ∵ nothing ! $ move ! (1 ∷ 0 ∷ []) $ fjoin ! $ feq_i ! (List Val) (v ∷ []) (v ∷ []) refl $ fjoin ! $
      fpack ! (Valss (X ∷ [])) (in_a_row (X ∷ []) (owns (X ∷ []) (x, tt)) (v ∷ [])) (v ∷ [], tt) $
      feq_i ! (List Val) whole whole refl $ fjoin ! $
      fpack ! (List Val) (tagged_with (form_of (shape (result.the_type X Y))) (form_of (shape (result.the_type X Y))).payload ((result.the_type X Y).to (Ok x)) whole) (v ∷ []) $ done !

  pub makes_err : (y : Y.Denot) (v : Val) → ent 𝓤 (sem 𝓛 (Y.own_val y (v ∷ []))) (sem 𝓛 ((result.the_row X Y).own_val (Err y) (live 1 (of_list (v ∷ [])) ∷ [])))
  makes_err y v =
      let whole : List Val = live 1 (of_list (v ∷ [])) ∷ [] in
      qed 𝓛 (‵ (Y.own_val y (v ∷ [])) ∷ []) ∵ nothing ! $ move ! (1 ∷ 0 ∷ []) $ fjoin ! $ feq_i ! (List Val) (v ∷ []) (v ∷ []) refl $ fjoin ! $
      fpack ! (Valss (Y ∷ [])) (in_a_row (Y ∷ []) (owns (Y ∷ []) (y, tt)) (v ∷ [])) (v ∷ [], tt) $
      feq_i ! (List Val) whole whole refl $ fjoin ! $
      fpack ! (List Val) (tagged_with (form_of (shape (result.the_type X Y))) (form_of (shape (result.the_type X Y))).payload ((result.the_type X Y).to (Err y)) whole) (v ∷ []) $ done !
