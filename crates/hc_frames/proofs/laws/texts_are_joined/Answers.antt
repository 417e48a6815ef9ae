use Rattle.hc_frames.proofs.lemmas.Texts.{carried_texts-append}
use Rattle.hc_frames.proofs.laws.texts_are_joined.Goals as goal

pub returns : goal.returns
returns c = carried_texts-append
