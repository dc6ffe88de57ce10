use Rattle.settled_form.proofs.Parts.{numbers-none, bytes-none, numbers-next, bytes_next}
use Rattle.settled_form.proofs.put_together.Goals as goal

pub loop-k-init : goal.loop-k-init
loop-k-init c =
    let a = c.args in
    record { numbers_put = numbers-none a.numbers.now a.bytes.now a.out_numbers.now; bytes_put = bytes-none a.numbers.now a.bytes.now a.out_bytes.now }

pub loop-k-preserved : goal.loop-k-preserved
loop-k-preserved c =
    let a = c.args in
    let k = c.loop-k.k in
    let so_far = c.loop-k.invariant in
    let put = c.put_port.ensures in
    record {
      numbers_put = numbers-next a.numbers.now a.bytes.now a.out_numbers.now k so_far.numbers_put put.numbers_laid;
      bytes_put = bytes_next a.numbers.now a.bytes.now a.out_bytes.now k so_far.bytes_put put.bytes_laid;
    }
