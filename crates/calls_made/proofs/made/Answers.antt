use Rattle.calls_made.proofs.made.Goals as goal

pub returns : goal.returns
returns g c =
    let is = c.gnatcov.ensures in
    record {
      usage = is.usage;
      done = is.done;
      unchanged = is.unchanged;
      others = is.others;
      one_line = is.one_line;
      read_rose = is.read_rose;
      read_fault = is.read_fault;
      write_fault = is.write_fault;
      runs = is.runs;
      source = is.source;
      pairs = is.pairs;
      json_pairs = is.json_pairs;
      consolidated = is.consolidated;
      merged = is.merged;
      files_covered = is.files_covered;
      files_merged = is.files_merged;
      grouping = is.grouping;
      merged_grouping = is.merged_grouping;
      object = is.object;
      trace = is.trace;
      compiles = is.compiles;
      ends = is.ends;
      no_trap = is.no_trap;
      covers = is.covers;
      consolidates = is.consolidates;
      covers_runs = is.covers_runs;
      consolidates_runs = is.consolidates_runs;
    }
