-- What a world shows: everything, but of what was served to its queries only the ranges.
use Rattle.std.specs.Prelude.{[], map, Option, option_map}
use Rattle.rt_agg.specs.Grouped.{Grouped}
use Rattle.rt_agg.specs.declared.served.Served.{Served}
use Rattle.rt_broker.specs.Asking.{Asking}
use Rattle.rt_broker.specs.declared.piece_asked.PieceAnswer.{PieceAnswer}
use Rattle.rt_broker.specs.declared.piece_asked.PieceAsked.{PieceAsked}
use Rattle.rt_broker.specs.declared.piece_got.PieceGot.{PieceGot}
use Rattle.rt_broker.specs.declared.piece_got.PieceGot.TheVariants as got
use Rattle.rt_broker.specs.declared.route.Route.{Route}
use Rattle.rt_broker.specs.declared.route.Route.TheVariants.{Untried, Failed, Planned}
use Rattle.rt_state.specs.declared.state.State.{State}

-- the same in the place of any groups
abbrev pub no_groups : Grouped
no_groups = record { columns = []; items = []; order = []; limit = 0; groups = [] }

abbrev pub served_shown : Served → Served
served_shown served = record served { groups = no_groups }

abbrev pub got_shown : PieceGot → PieceGot
got_shown (got.Served served) = got.Served (served_shown served)
got_shown got.NotServed = got.NotServed
got_shown got.Down = got.Down

abbrev pub answer_shown : PieceAnswer → PieceAnswer
answer_shown y = record y { got = got_shown y.got }

abbrev pub piece_shown : PieceAsked → PieceAsked
piece_shown x = record x { answers = map answer_shown x.answers }

abbrev pub route_shown : Route → Route
route_shown Untried = Untried
route_shown Failed = Failed
route_shown (Planned xs) = Planned (map piece_shown xs)

abbrev pub asking_shown : Asking → Asking
asking_shown a = record a { routes = map route_shown a.routes }

abbrev pub query_shown : Option Asking → Option Asking
query_shown asked = option_map asking_shown asked

abbrev pub shown : State → State
shown w = record w { queries = map query_shown w.queries }
