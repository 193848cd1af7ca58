-- A failed write leaves a beginning of what the job prints.
use Rattle.std.proofs.Common.{◌≡◌, IfSome, ◌∙◌, ap, arith}
use Rattle.std.proofs.lemmas.Grind.{common_steps}
use Rattle.job.specs.Lines.{printed_by}
use Rattle.job_stream.proofs.Writing.{failed_write}
use Rattle.job_stream.proofs.run_through.Goals as goal

pub returns-clause-begun : goal.returns-clause-begun
returns-clause-begun g c =
    let reads : IfSome (g.R.Read.remaining c.args.input) (λ bytes. printed_by c.in_ok-bytes.bytes.items ≡ printed_by bytes) = grind (arith, common_steps) in
    let prints : c.as_bytes.result.now ≡ printed_by c.in_ok-bytes.bytes.items = c.as_bytes.ensures.value ∙ c.in_ok-printed.ensures.prints ∙ ap printed_by c.as_slice.ensures.value in
    failed_write c.write_whole.result c.map_err-2.result _ _ _ c.as_bytes.result.now c.in_ok-bytes.bytes.items c.map_err-2.ensures.variant reads prints c.write_whole.ensures.beginning
