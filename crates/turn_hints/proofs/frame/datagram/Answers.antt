use Rattle.turn_hints.proofs.frame.datagram.Goals as goal

pub returns-in-Err-parse : goal.returns-in-Err-parse
returns-in-Err-parse c = (
  (λ type id attributes is. let h = rw c.in-Err.is at (c.from_bytes.ensures.only type id attributes is).0 in cc),
  (λ id payload rest is. let h = rw c.in-Err-parse.is at (c.parse.ensures.only id payload rest is) in h),
)
