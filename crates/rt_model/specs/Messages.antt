-- Messages between replicas and controllers.
use Rattle.std.specs.Prelude.{Bool, ◌&&◌, ◌==◌}
use Rattle.rt_model.specs.declared.asked.Asked.{Asked}
use Rattle.rt_model.specs.declared.request.Request.{Request}
use Rattle.rt_model.specs.declared.request.RequestNumber.{RequestNumber}

-- whether two requests have one number
abbrev pub same_number : RequestNumber → RequestNumber → Bool
same_number a b = (a.instance.0 == b.instance.0) && (a.incarnation == b.incarnation) && (a.count == b.count)

-- what an answer to a request says of it
abbrev pub asked_of : Request → Asked
asked_of request =
    record { number = request.number; partition = request.partition; sequence = request.sequence }
