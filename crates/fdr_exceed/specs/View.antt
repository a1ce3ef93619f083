-- What a watch of the program keeps.
use Rattle.fdr_exceed.specs.declared.watch.Watch.TheInside.{Inside}
use Rattle.fdr_exceed.specs.Watching.{WatchKept}

-- what the program's watch keeps
abbrev pub watch_kept : Inside → WatchKept
watch_kept w = record {
  rules = w.rules.items;
  hits = w.hits.items;
  windows = w.windows.items;
  sources = w.sources.items;
  due = w.due.items;
  rows = w.rows;
}
