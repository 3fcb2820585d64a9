-- What lasts of a job stays true as the past grows.
use Rattle.std.proofs.Common.{ℕ, List}
use Rattle.std.proofs.lemmas.List.Elements.{All-weaker}
use Rattle.rt_lists.specs.Members.{IsFront}
use Rattle.rt_lists.proofs.Members.{Has-front}
use Rattle.rt_model.specs.declared.asked.Asked.{Asked}
use Rattle.rt_model.specs.declared.node.Seen.{Seen}
use Rattle.rt_model.specs.declared.setup.Setup.{Setup}
use Rattle.rt_store.specs.Contents.{starting_of}
use Rattle.rt_past.specs.Past.{Past, Grows}
use Rattle.rt_past.proofs.Growth.{stored_grows}
use Rattle.rt_znodes.specs.Znodes.{meta_in}
use Rattle.rt_commit.specs.declared.job.Job.{Job}
use Rattle.rt_commit.specs.declared.job.JobStage.TheVariants as stage
use Rattle.rt_commit.specs.declared.job.JobStage.{JobStage}
use Rattle.rt_commit.specs.Lasting.{WasIdeal, Try, IsTry, AreTries, WasSent, IsBacked, IsJobOver}
use Rattle.rt_commit.specs.Laws.{IsTrying}
use Rattle.rt_commit.proofs.KeepsJobs.{job_on}

-- ---- as the past grows

ideal_lasts : (a b : List Seen) (version : ℕ) → IsFront a b → WasIdeal a version → WasIdeal b version
ideal_lasts a b version g (w, is, e) = (w, record { has = Has-front a b w g is.has; is_ideal = is.is_ideal }, e)

try_lasts : (a b : List Seen) (t : Try) → IsFront a b → IsTry a t → IsTry b t
try_lasts a b t g k =
    record {
      expected = ideal_lasts a b t.expected g k.expected;
      found = ideal_lasts a b t.found g k.found;
      later = k.later;
    }

tries_last : (a b : List Seen) (versions : List ℕ) → IsFront a b → AreTries a versions → AreTries b versions
tries_last a b versions g k =
    record {
      tries = k.tries;
      found = k.found;
      each = All-weaker (IsTry a) (IsTry b) (λ t. try_lasts a b t g) k.tries k.each;
      ordered = k.ordered;
    }

sent_lasts : (a b : Past) (q : Asked) → Grows a b → WasSent a q → WasSent b q
sent_lasts a b q g k = record { request = k.request; was_sent = Has-front a.sent b.sent _ g.sent k.was_sent; answers = k.answers }

backed_lasts : (setup : Setup) (a b : Past) (q : Asked) (s : JobStage) → Grows a b → IsBacked setup a q s → IsBacked setup b q s
backed_lasts setup a b q (stage.Check from end path) g k =
    record {
      request = k.request;
      was_sent = Has-front a.sent b.sent _ g.sent k.was_sent;
      answers = k.answers;
      offset = k.offset;
      names = k.names;
    }
backed_lasts setup a b q (stage.Done from commit) g k =
    stored_grows setup a b q.partition q.sequence (meta_in from.node).start commit g k
backed_lasts setup a b q (stage.Next done) g k = tt
backed_lasts setup a b q (stage.IdealRead w found) g k = tries_last a.history b.history found g.history k
backed_lasts setup a b q (stage.IdealSet w found ideal) g k = (tries_last a.history b.history found g.history k.0, k.1)
backed_lasts setup a b q stage.Ended g k = tt

pub job_lasts : (setup : Setup) (a b : Past) (j : Job) → Grows a b → IsJobOver setup a j → IsJobOver setup b j
job_lasts setup a b j g k =
    record {
      job = job_on (starting_of setup) a.history b.history j g.history k.job;
      asked = sent_lasts a b j.asked g k.asked;
      backed = backed_lasts setup a b j.asked j.stage g k.backed;
      trying = k.trying;
    }

-- ---- what lasts beside what was read

pub record JobLasts (setup : Setup) (past : Past) (j : Job) : Type 0 where
  pub asked : WasSent past j.asked
  pub backed : IsBacked setup past j.asked j.stage
  pub trying : IsTrying j.stage

pub job_lasts_of : (setup : Setup) (past : Past) (j : Job) → IsJobOver setup past j → JobLasts setup past j
job_lasts_of setup past j k = record { asked = k.asked; backed = k.backed; trying = k.trying }
