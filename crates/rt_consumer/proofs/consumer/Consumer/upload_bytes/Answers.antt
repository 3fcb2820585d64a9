use Rattle.std.proofs.Common.{◌∙◌, ap, sym}
use Rattle.rt_consumer.specs.Requests.{size_at, size_in}
use Rattle.rt_consumer.proofs.consumer.Consumer.upload_bytes.Goals as goal

pub returns-in-Uploading : goal.returns-in-Uploading
returns-in-Uploading c = c.size.ensures ∙ sym (ap size_in c.in-Unsealed.is ∙ ap size_at c.in-Uploading.is)
