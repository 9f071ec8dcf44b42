-- `isa::last_byte` meets its contract.
use Rattle.std.proofs.Common.{◌≡◌, ◌-◌, length, get_or, sym, ◌∙◌, rules}
use Rattle.isa.proofs.Places.{last_at}
use Rattle.isa.proofs.last_byte.Goals as goal

pub returns : goal.returns
returns c = let i = c.args.i.now in let h : c.unwrap_or.result ≡ get_or i (length i - 1) 0 = search rules in h ∙ sym (last_at i)
