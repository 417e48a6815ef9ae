use Rattle.hc_c.proofs.reading.give_slots.Goals as goal

pub returns-clause-image : goal.returns-clause-image
returns-clause-image c done = record { reported = c.image_out.ensures; bytes = c.put_data.ensures; answered_serials = c.put_serials.ensures }
