use Rattle.rt_model.proofs.Listings.{has_listings}
use Rattle.rt_model.proofs.laws.the_listed_segments_are_one_run.Goals as goal

pub returns : goal.returns
returns c = has_listings
