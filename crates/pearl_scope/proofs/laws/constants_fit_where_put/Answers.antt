use Rattle.pearl_scope.proofs.Put.{fits_where_put}
use Rattle.pearl_scope.proofs.laws.constants_fit_where_put.Goals as goal

pub returns : goal.returns
returns c = fits_where_put
