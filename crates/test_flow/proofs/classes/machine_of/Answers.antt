use Rattle.test_flow.proofs.classes.machine_of.Goals as goal

pub returns : goal.returns
returns c =
    let is = c.m1-machine.ensures.in_range in
    record {
      width = is.width;
      queue = is.queue;
      hit = is.hit;
      miss = is.miss;
      alu = is.alu;
      alu_never_slow = is.alu_never_slow;
      mul = is.mul;
      mem = is.mem;
      shape = c.in_ok-shape.ensures;
      horizon = is.horizon;
      states = is.states;
      regions = is.regions;
      region = is.region;
      apart = is.apart;
    }
