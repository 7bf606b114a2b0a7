mod Served
mod Asked
mod Leads
mod Courses
mod Grouped
