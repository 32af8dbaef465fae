use Rattle.mesh_files.proofs.summary.put_reply_count.Goals as goal

pub returns : goal.returns
returns g c = rw (c.count_of.ensures, c.as_bytes.ensures.value, c.word_of-word.ensures) at c.put_title.ensures
