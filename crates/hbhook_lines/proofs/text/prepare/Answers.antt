use Rattle.hbhook_lines.proofs.text.prepare.Goals as goal

-- what the call promises, whose preparation is this one
pub returns-clause-ok : goal.returns-clause-ok
returns-clause-ok c = c.prepare_text.ensures.ok

pub returns-clause-err : goal.returns-clause-err
returns-clause-err c = c.prepare_text.ensures.err
