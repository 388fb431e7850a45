use Rattle.front.proofs.RequestsLeft.{rewound}
use Rattle.front.proofs.requests.rewind.Goals as goal

pub returns : goal.returns
returns c =
    λ t s. rewound _ _ _ _ t s _ _ c.rewind.result _ _ c.lun.ensures c.open-d.ensures c.rewind.ensures c.keep.ensures.0 c.keep.ensures.1
