use Rattle.page.proofs.fill.Goals as goal

pub returns : goal.returns
returns g c = λ told puts. c.fill_counted.ensures told puts (c.count-needed.ensures told puts)
